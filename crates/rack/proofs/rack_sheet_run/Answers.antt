-- `rack::rack_sheet_run` meets its contract: a listing's length is at most 1,100, so that the cast keeps it.
use mathlib.Core.Path.{ap}
use native.Mathlib.Omega.{arith}
use Rattle.rack.specs.Packed.{sheet_number}
use Rattle.rack.proofs.Laws.{listing_short}
use Rattle.rack.proofs.rack_sheet_run.Goals as goal

pub overflow_cast-result : goal.overflow_cast-result
overflow_cast-result c = omega (arith, listing_short _ _ c.in-Ok.ensures.value)

pub returns-in-Ok : goal.returns-in-Ok
returns-in-Ok c =
    record {
      value = omega (arith, ap sheet_number c.in-Ok.ensures.value);
      listing_after = c.run.ensures.out_after;
    }

pub returns-in-Err : goal.returns-in-Err
returns-in-Err c =
    record {
      value = omega (arith, c.refused.ensures, ap sheet_number c.in-Err.ensures.value);
      listing_after = c.run.ensures.out_after;
    }
