-- `free::address_for` meets its contract.
use Rattle.free.proofs.Laws.{address_found, address_new}
use Rattle.free.proofs.address_for.Goals as goal

pub returns-in-Some : goal.returns-in-Some
returns-in-Some c = address_found _ _ _ c.in-Some.ensures

pub returns-in-None : goal.returns-in-None
returns-in-None c = address_new _ _ _ c.in-None.ensures _ (rw c.unwrap_or.ensures c.lowest_free.ensures.value)
