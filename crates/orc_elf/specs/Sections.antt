-- The kinds of section that an object has (System V gABI, chapter 4, "Sections").
use Rattle.orc_elf.specs.declared.section.SectionKind.{SectionKind}

-- the section of header 0: SHT_NULL
abbrev pub null : SectionKind
null = record { kind = 0; flags = 0; link = 0; info = 0; align = 0; entry_size = 0 }

-- .text: SHT_PROGBITS, with SHF_ALLOC and SHF_EXECINSTR
abbrev pub text : SectionKind
text = record { kind = 1; flags = 6; link = 0; info = 0; align = 16; entry_size = 0 }

-- .symtab: SHT_SYMTAB. Its names stand in section 3, and the first symbol that isn't local is symbol 1
abbrev pub symtab : SectionKind
symtab = record { kind = 2; flags = 0; link = 3; info = 1; align = 8; entry_size = 24 }

-- .strtab and .shstrtab: SHT_STRTAB
abbrev pub strtab : SectionKind
strtab = record { kind = 3; flags = 0; link = 0; info = 0; align = 1; entry_size = 0 }

-- .symtab of a library: the first symbol that isn't local is symbol 2
abbrev pub library_symtab : SectionKind
library_symtab = record { kind = 2; flags = 0; link = 3; info = 2; align = 8; entry_size = 24 }

-- .note.GNU-stack: SHT_PROGBITS without SHF_EXECINSTR, which says that no executable stack is wanted
abbrev pub no_stack : SectionKind
no_stack = record { kind = 1; flags = 0; link = 0; info = 0; align = 1; entry_size = 0 }

-- .eh_frame: SHT_PROGBITS, with SHF_ALLOC
abbrev pub eh_frame : SectionKind
eh_frame = record { kind = 1; flags = 2; link = 0; info = 0; align = 8; entry_size = 0 }

-- .rela.eh_frame: SHT_RELA, with SHF_INFO_LINK: relocations of section 6 by the symbols of section 2
abbrev pub rela_eh_frame : SectionKind
rela_eh_frame = record { kind = 4; flags = 0x40; link = 2; info = 6; align = 8; entry_size = 24 }
