-- What a function's layout has of the function.
use Rattle.std.proofs.Common.{◌≡◌, refl}
use Rattle.orc_program.specs.declared.program.VarKind.TheVariants as kind
use Rattle.orc_program.specs.Program.{FunctionValue, places_of}
use Rattle.orc_program.specs.Checks.{patterns_of}
use Rattle.orc_frame.specs.Layout.{layout_of, acc_sizes_of}

pub patterns_are : (f : FunctionValue) → (layout_of f).patterns.items ≡ patterns_of f.vars f.insns
unfolding layout_of
patterns_are f = refl

pub params_are : (f : FunctionValue) → (layout_of f).params.items ≡ places_of kind.Param f.vars
unfolding layout_of
params_are f = refl

pub sizes_are : (f : FunctionValue) → (layout_of f).acc_sizes.items ≡ acc_sizes_of f.vars
unfolding layout_of
sizes_are f = refl

pub two_d_is : (f : FunctionValue) → (layout_of f).two_d ≡ f.two_d
unfolding layout_of
two_d_is f = refl
