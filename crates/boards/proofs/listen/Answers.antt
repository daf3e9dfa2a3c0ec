-- `boards::listen` meets its contract: what the rest of the round does from here is what the whole round does.
use mathlib.Core.Path.{◌≡◌, ◌∙◌}
use Prim.Native.Nat.{◌-◌}
use mathlib.Core.List.{map}
use native.Mathlib.Omega.{arith}
use lib.ListN.{length-map}
use Rattle.boards.specs.Wire.{board_of, stay_in}
use Rattle.boards.proofs.Turns.{hearing_start, hearing_stay, hearing_room, hearing_turn, hearing_ended, hear_identities}
use Rattle.boards.proofs.listen.Goals as goal
use Rattle.boards.proofs.listen.Goals.{then-seen-eq0, else-seen-eq0}

pub loop-k-init : goal.loop-k-init
loop-k-init c = hearing_start (rw length-map (omega arith))

pub overflow_mul-identity : goal.overflow_mul-identity
overflow_mul-identity c = record { fits = omega (arith, hearing_room c.loop-k.invariant (omega arith) (omega arith) c.wire_bit-seen.ensures) }

pub overflow_add-identity : goal.overflow_add-identity
overflow_add-identity c = record { fits = search (arith, hearing_room) }

pub loop-k-preserved : goal.loop-k-preserved
loop-k-preserved c =
    let kept : c.if-seen-eq0.kept ≡ stay_in (c.loop-k.k - 1) c.wire_bit-seen.result (map board_of c.identities-sent.result) c.loop-k.kept =
    elim c.if-seen-eq0.branch [
      | then-seen-eq0 w ↦ w.kept-is ∙ rw w.if-seen-eq0.true w.stay_in.ensures
      | else-seen-eq0 w ↦ w.kept-is ∙ hearing_stay c.loop-k.invariant (omega arith) (omega arith) c.wire_bit-seen.ensures w.if-seen-eq0.false
    ]
    in
    search (arith, hearing_turn)

pub returns : goal.returns
returns c =
    let a = c.args in
    hearing_ended c.loop-k.invariant (omega arith) ∙ rw c.identities-sent.ensures (hear_identities 64 a.boards.now a.still.now 0)
