-- Boards stay where they stand: rounds give addresses to boards that have none, and change nothing else.
use Prim.Native.Nat.{ℕ}
use mathlib.Core.Path.{◌≡◌, refl, sym, subst, ◌∙◌}
use mathlib.Core.Bool.{false}
use mathlib.Core.List.{List, [], ◌∷◌}
use Rattle.lists.proofs.Bools.{cond_by}
use Rattle.boards.specs.declared.Board.{Board}
use Rattle.boards.specs.Wire.{waits}
use Rattle.boards.specs.Plain.{bears, given}
use Rattle.bench.specs.Play.{Round}
use Rattle.demand.specs.Demand.{Fair, FairRounds, Stay}

-- where nothing happens
stay_same : (bs : List Board) → Stay bs bs
unfolding Stay
stay_same [] = tt
stay_same (b ∷ bs) = (refl, (λ _. refl), stay_same bs)

-- and one change after the other
stay_on : (bs cs ds : List Board) → Stay bs cs → Stay cs ds → Stay bs ds
unfolding Stay
stay_on [] [] [] p q = tt
stay_on [] [] (d ∷ ds) p q = q
stay_on [] (c ∷ cs) ds p q = absurd p
stay_on (b ∷ bs) [] ds p q = absurd p
stay_on (b ∷ bs) (c ∷ cs) [] p q = absurd q
stay_on (b ∷ bs) (c ∷ cs) (d ∷ ds) p q =
    (q.0 ∙ p.0, (λ has. let same = p.1 has in q.1 (subst (λ (x : Board). waits x ≡ false) (sym same) has) ∙ same), stay_on bs cs ds p.2 q.2)

-- an address given to the bearers of an identity
given_stay : (a id : ℕ) (bs : List Board) → Stay bs (given a id bs)
unfolding Stay given
given_stay a id [] = tt
given_stay a id (b ∷ bs) =
    (cond_by (λ (c : Board). c.identity ≡ b.identity) (bears id b) (λ _. refl) (λ _. refl), (λ has. rw has), given_stay a id bs)

-- an answered round
round_stays : (r : Round) → Fair r → Stay r.before r.after
round_stays r fair =
    subst (Stay r.before) (sym fair.together)
    (cond_by (Stay r.before) r.accepted (λ _. given_stay r.address r.identity r.before) (λ _. stay_same r.before))

-- rounds one after the other
pub fair_stay : (bs : List Board) (rs : List Round) (bs' : List Board) → FairRounds bs rs bs' → Stay bs bs'
unfolding FairRounds
fair_stay bs [] bs' e = subst (Stay bs) e (stay_same bs)
fair_stay bs (r ∷ rs) bs' f =
    let first = subst (λ (start : List Board). Stay start r.after) f.0 (round_stays r f.1) in
    stay_on bs r.after bs' first (fair_stay r.after rs bs' f.2)
