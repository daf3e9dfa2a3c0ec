-- The numbers of the commands' cells.
use Prim.Native.Nat.{ℕ}
use mathlib.Core.Path.{◌≡◌, refl}
use mathlib.Core.Bool.{cond}
use lib.Count.{ones_in}
use lib.Dec.{eqb}
use Rattle.parity.specs.Parity.{parity, odd_bit}
use Rattle.readings.specs.declared.Command.TheVariants.{Assign, ResetAll, SetFromStatic, Move, Silence, Allow}
use Rattle.readings.specs.declared.Command.TheVariants as commands
use Rattle.reader.specs.Points.{command_of}

pub command_numbers : (x : ℕ) → command_of x
    ≡ cond (eqb x 14) Assign
    (cond (eqb x 13) ResetAll
    (cond (eqb x 271) SetFromStatic
    (cond (eqb x 273) Move
    (cond (eqb x 2) Silence
    (cond (eqb x 1) Allow commands.None)))))
unfolding command_of odd_bit parity ones_in
command_numbers x = refl
