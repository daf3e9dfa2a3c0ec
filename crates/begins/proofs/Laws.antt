-- Laws of the refusals: a move asks for its ticket's two at once.
use Prim.Native.Nat.{ℕ}
use native.Mathlib.Omega.{arith}
use mathlib.Core.Path.{◌≡◌}
use mathlib.Core.Bool.{Bool, true, false, cond}

-- a ticket that is refused is refused before more is asked
pub ticket_refused : (unknown retired : Bool) {r : ℕ} (more : ℕ) → r ≡ cond unknown 8 (cond retired 9 0) → (r ≡ 0 → ⊥) → r ≡ cond unknown 8 (cond retired 9 more)
ticket_refused true retired more e h = e
ticket_refused false true more e h = e
ticket_refused false false more e h = absurd (h e)

-- with one that is not, more is asked
pub ticket_right : (unknown retired : Bool) {x more : ℕ} → ◌≡◌ {A = ℕ} 0 (cond unknown 8 (cond retired 9 0)) → x ≡ more → x ≡ cond unknown 8 (cond retired 9 more)
ticket_right true retired z p = absurd (omega arith)
ticket_right false true z p = absurd (omega arith)
ticket_right false false z p = p
