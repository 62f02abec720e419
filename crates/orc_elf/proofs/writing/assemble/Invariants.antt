use Rattle.std.proofs.Common.{◌≡◌, ◌+◌, ◌++◌, length, take}
use Rattle.orc_elf.specs.Layout.{file_header, headers_part}
use Rattle.orc_elf.proofs.writing.assemble.Given as goal

abbrev pub invariant-loop-header : goal.invariant-loop-header
invariant-loop-header l = l.out.items ≡ file_header (64 + length l.contents) (length l.headers) ++ (l.contents ++ headers_part (take l.header-index l.headers))
