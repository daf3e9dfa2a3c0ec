-- A run on the wire: the machine's own calls, from Begin until idle, and the boards bit by bit.
use Rattle.std.specs.Prelude.{ℕ, zero, suc, ◌-◌, Bool, cond, not, ◌&&◌, List, [], ◌∷◌, ◌++◌, eqb, length}
use Rattle.lists.specs.Bits.{bytes_of}
use Rattle.parity.specs.Parity.{odd_ones, flipped}
use Rattle.parity.specs.Cells.{offered_byte}
use Rattle.boards.specs.declared.Board.{Board}
use Rattle.boards.specs.declared.Heard.{Heard}
use Rattle.boards.specs.Wire.{waiting, anyone, hear, after_byte}
use Rattle.machine.specs.declared.Machine.{Machine}
use Rattle.machine.specs.Moments.{is_idle}
use Rattle.machine.specs.Steps.{Step}
use Rattle.machine.specs.Calls.{begun, answered, identified}
use Rattle.bench.specs.Play.{Round, Play, flip_now, flips_then, offer_ending}

-- ---- what a run comes to

-- behind a step of the machine: its machine, and its cells behind those before; boards, rounds and ending become these
abbrev pub onward : Play → Step → List Board → List Round → ℕ → Play
onward p s bs rounds ending = record { machine = s.machine; boards = bs; cells = p.cells ++ s.cells; rounds = rounds; ending = ending }

-- any board answers the first header
abbrev pub any_board : List Board → Bool
any_board bs = not (eqb (length bs) 0)

-- the address byte that the machine offers, as the boards see it with this flip
abbrev pub byte_seen : ℕ → Play → ℕ
byte_seen flip p = flipped flip (offered_byte p.machine.offered)

-- an offer is answered if a board that is still in takes it
abbrev pub is_taken : ℕ → Heard → Bool
is_taken byte h = anyone h.still && odd_ones byte

-- the round of such an offer: what was heard, what was offered, and what the boards did with the byte that they saw
abbrev pub round_of : ℕ → Heard → Play → Round
round_of byte h p =
    record {
      before = p.boards;
      identity = h.identity;
      address = p.machine.offered;
      accepted = is_taken byte h;
      after = after_byte byte h.still p.boards;
    }

-- the ending, if the machine is idle behind the offer; else none yet
abbrev pub ending_at : Bool → Machine → ℕ
ending_at accepted m = cond (is_idle m.moment) (offer_ending accepted m.table.facts m.table.rows) 0

-- ---- with so many cells that the bench is lent

module _ (room : ℕ) where
  -- a call of the machine, lent what is left of them
  abbrev pub calls : (Machine → ℕ → Step) → Play → Step
  calls call p = call p.machine (room - length p.cells)

  -- the run behind such a call, by which nothing else happens
  abbrev pub called : (Machine → ℕ → Step) → Play → Play
  called call p = onward p (calls call p) p.boards p.rounds p.ending

  -- Begin for assign
  abbrev pub begins : Machine → List Board → Play
  begins m bs = called (λ m. begun m 0 0 0 0) (record { machine = m; boards = bs; cells = []; rounds = []; ending = 0 })

  -- and the first header; silent, the run ends there with 5
  unfoldable pub opened : Machine → List Board → Play
  opened m bs = onward (begins m bs) (calls (λ m. answered m (any_board bs)) (begins m bs)) bs [] (cond (any_board bs) 0 5)

  -- a round's header, which only boards without an address answer
  abbrev pub headed : Play → Play
  headed p = called (λ m. answered m (anyone (waiting p.boards))) p

  -- behind the bits of the identities the machine is told what was heard, as eight bytes
  abbrev pub listened : Heard → Play → Play
  listened h p = called (λ m. identified m (bytes_of 8 h.identity)) p

  -- and its offer is answered or not
  abbrev pub answered_offer : ℕ → Heard → Play → Play
  answered_offer byte h p =
      let s = calls (λ m. answered m (is_taken byte h)) p in
      onward p s (round_of byte h p).after (p.rounds ++ (round_of byte h p ∷ [])) (ending_at (is_taken byte h) s.machine)

  -- both, with this flip between them
  unfoldable pub offered_on : ℕ → Heard → Play → Play
  offered_on flip h p = answered_offer (byte_seen flip (listened h p)) h (listened h p)

  -- a round: where its header is silent, the run ends there, with ending 0, which it has so far
  unfoldable pub round_on : ℕ → Play → Play
  round_on flip p = cond (anyone (waiting p.boards)) (offered_on flip (hear 64 p.boards (waiting p.boards) 0) (headed p)) (headed p)

  -- rounds until idle, at most n
  unfoldable pub rounds_on : ℕ → List ℕ → Play → Play
  rounds_on zero ks p = p
  rounds_on (suc n) ks p = cond (is_idle p.machine.moment) p (rounds_on n (flips_then ks) (round_on (flip_now ks) p))

  -- the run; 65 rounds are enough: at most 64 are answered by 32 boards, and one may be silent
  unfoldable pub on_wire : Machine → List Board → List ℕ → Play
  on_wire m bs ks = rounds_on 65 ks (opened m bs)
