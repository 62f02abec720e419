use Rattle.std.proofs.Common.{◌≡◌, ◌++◌, List, map, length, sym, ap, ap₂, ◌∙◌, subst, arith}
use Rattle.orc_program.specs.Program.{FunctionValue, ProgramValue}
use Rattle.orc_text.specs.Each.{OneForEach}
use Rattle.orc_text.proofs.Each.{count_kept}
use Rattle.orc_elf.specs.Entries.{EntryValue, names}
use Rattle.orc_elf.specs.LibraryFields.{LibraryGives}
use Rattle.orcc_top.specs.Libraries.{EnteredOf, init_function, init_of}
use Rattle.orcc_top.proofs.Each.{names_kept}
use Rattle.orcc_top.proofs.Entries.{entered_named}
use Rattle.orcc_top.proofs.library.library_bytes.Goals as goal

pub with_init-requires : goal.with_init-requires
with_init-requires c =
    let same : c.as_slice.result.now ≡ c.args.program.now.functions = c.as_slice.ensures ∙ ap (λ (p : ProgramValue). p.functions) c.program.view_is in
    omega (arith, count_kept (EnteredOf c.args.text.now c.args.target) c.as_slice.result.now c.in_ok-library.library.entries c.in_ok-library.ensures.entries, ap length same, c.requires.few)

pub returns-in-Ok-write_library-clause-holds : goal.returns-in-Ok-write_library-clause-holds
returns-in-Ok-write_library-clause-holds c =
    let target = c.args.target in
    let text = c.args.text.now in
    let entries = c.in_ok-library.library.entries in
    let same : c.as_slice.result.now ≡ c.args.program.now.functions = c.as_slice.ensures ∙ ap (λ (p : ProgramValue). p.functions) c.program.view_is in
    let each : OneForEach (EnteredOf text target) c.args.program.now.functions entries = subst (λ fs. OneForEach (EnteredOf text target) fs entries) same c.in_ok-library.ensures.entries in
    let named : names entries ≡ map (λ (f : FunctionValue). f.name) c.args.program.now.functions = names_kept (EnteredOf text target) (λ f. f.name) (λ e. e.name) (entered_named text target) c.args.program.now.functions entries each in
    let init : c.program.inside.init ≡ c.args.program.now.init = ap (λ (p : ProgramValue). p.init) c.program.view_is in
    let last : init_function c.program.inside.init (names entries) ≡ init_of c.args.program.now = ap₂ init_function init named in
    let whole : c.in-Ok.whole.entries ≡ entries ++ init_of c.args.program.now = c.in-Ok.ensures ∙ ap (λ es. entries ++ es) last in
    (entries, subst (λ es. LibraryGives c.in-Ok-write_library.bytes.items es) whole c.in-Ok-write_library.ensures.gives, each)
