-- `rackrun::answered` leaves the listing or the line of the refusal.
use mathlib.Core.Path.{refl}
use Rattle.refusals.proofs.Laws.{number_not_zero}
use Rattle.rackrun.proofs.Laws.{prints_listing, prints_refusal}
use Rattle.rackrun.proofs.answered.Goals as goal

pub returns-in-Ok : goal.returns-in-Ok
returns-in-Ok c =
    let p = prints_listing c.args.sheet.now c.args.out.now c.requires c.in-Ok.ensures.value c.run.ensures.out_after refl in
    record { value = p.0; out_after = p.1 }

pub returns-in-Err : goal.returns-in-Err
returns-in-Err c =
    let number = c.number.ensures in
    let p =
    prints_refusal c.args.sheet.now c.args.out.now c.requires c.in-Err.ensures.value c.run.ensures.out_after (number_not_zero c.in-Err.refusal)
    (rw number at c.write_refusal.ensures.value) (rw number at c.write_refusal.ensures.out_after) in
    record { value = p.0; out_after = p.1 }
