-- The code keeps a run of the definitions: a call of the machine leads on, an offer does, and a round does.
use Prim.Native.Nat.{ℕ, ◌+◌, ◌-◌, ◌≤◌}
use mathlib.Core.Path.{◌≡◌, refl, sym, ap, ap₂, subst, ◌∙◌}
use mathlib.Core.Bool.{Bool, true, false, cond, not, ◌&&◌, true≢false}
use mathlib.Core.List.{List, [], ◌∷◌, ◌++◌}
use native.Mathlib.Nat.{sub-zero}
use native.Mathlib.Omega.{arith}
use lib.Dec.{eqb, ltb}
use lib.ListN.{length, take, drop, replicate, length-append, length-map, length-take, take-append-drop}
use borrow.Author.Tests.{lt-ltb, ltb-true, ne_eqb, eqb-false, not-true}
use Rattle.lists.proofs.Bools.{agree, cond_by}
use Rattle.lists.specs.Bits.{bytes_of}
use Rattle.lists.specs.Buffers.{lay_at}
use Rattle.lists.proofs.Buffers.{lay-length, lay_on}
use Rattle.parity.specs.Parity.{odd_ones, flipped}
use Rattle.parity.specs.Cells.{offered_byte}
use Rattle.boards.specs.declared.Board.{Board}
use Rattle.boards.specs.declared.Heard.{Heard}
use Rattle.boards.specs.Wire.{waits}
use Rattle.boards.specs.Wire.{anyone, waiting, hear, after_byte, waiting_first}
use Rattle.boards.proofs.Behind.{anyone_behind, hear_behind, still_long, after_behind, waiting-first}
use Rattle.machine.specs.declared.Machine.{Machine}
use Rattle.machine.specs.declared.Stepped.{Stepped}
use Rattle.machine.specs.Moments.{is_idle}
use Rattle.machine.specs.Steps.{Step}
use Rattle.machine.specs.Calls.{stepped, written, begun, answered, identified}
use Rattle.machine.proofs.Emits.{begun_fits, answered_fits, identified_fits}
use Rattle.bench.specs.declared.play.Played.{Played}
use Rattle.bench.specs.Play.{Round, Play, offer_ending}
use Rattle.bench.specs.Wire.{calls, onward, any_board, opened, called, listened, byte_seen, is_taken, round_of, ending_at, headed, offered_on, round_on}
use Rattle.bench.specs.Keeps.{told, Keeps, KeepsOffer}

-- ---- a call of the machine, lent what is left of the cells

-- what is written is a part of the cells
pub kept_inside : {behind : List Board} {buffer : List ℕ} {kept : Played} {stand : List ℕ} {p : Play} → Keeps behind buffer kept stand p
    → kept.at ≤ length stand
kept_inside {behind} {buffer} {kept} {stand} {p} k = omega (arith, k.at, k.fits, ap length k.cells ∙ lay-length p.cells buffer k.fits)

module _ (call : Machine → ℕ → Step) (short : (m : Machine) (room : ℕ) → length (call m room).cells ≤ room)
    {behind : List Board} {buffer : List ℕ} {kept : Played} {stand : List ℕ} {p : Play} (k : Keeps behind buffer kept stand p)
    {kept' : Played} {stand' : List ℕ}
    (handed : kept' ≡ told kept (stepped (call kept.machine (length stand - kept.at))))
    (left : stand' ≡ lay_at kept.at (call kept.machine (length stand - kept.at)).cells stand) where
  -- it is the call of the definitions
  same_call : call kept.machine (length stand - kept.at) ≡ calls (length buffer) call p
  same_call = ap₂ call k.machine (ap₂ ◌-◌ (ap length k.cells ∙ lay-length p.cells buffer k.fits) k.at)

  same_handed : kept' ≡ told kept (stepped (calls (length buffer) call p))
  same_handed = handed ∙ ap (λ (s : Step). told kept (stepped s)) same_call

  keeps_machine : kept'.machine ≡ (calls (length buffer) call p).machine
  keeps_machine = ap (λ (t : Played). t.machine) same_handed

  -- boards, rounds and ending become these
  keeps_onward : {boards bs : List Board} {n end e : ℕ} {rounds : List Round} → boards ≡ bs ++ behind → n ≡ length rounds → end ≡ e
      → Keeps behind buffer (record { machine = kept'.machine; boards = boards; at = kept'.at; rounds = n; ending = end }) stand'
      (onward p (calls (length buffer) call p) bs rounds e)
  keeps_onward at-boards at-rounds at-ending =
      let s = calls (length buffer) call p in
      let room : length s.cells ≤ length buffer - length p.cells = short p.machine (length buffer - length p.cells) in
      let count : kept'.at ≡ kept.at + length s.cells = ap (λ (t : Played). t.at) same_handed in
      record {
        machine = keeps_machine;
        boards = at-boards;
        at = omega (arith, count, k.at, length-append p.cells s.cells);
        fits = omega (arith, room, k.fits, length-append p.cells s.cells);
        cells =
            left
            ∙ ap₂ (λ (t : Step) (l : List ℕ). lay_at kept.at t.cells l) same_call k.cells
            ∙ lay_on kept.at p.cells s.cells buffer (sym k.at) (omega (arith, k.at, k.fits));
        rounds = at-rounds;
        ending = at-ending;
      }

  -- boards, rounds and ending stay
  keeps_called : Keeps behind buffer kept' stand' (called (length buffer) call p)
  keeps_called =
      keeps_onward (ap (λ (t : Played). t.boards) handed ∙ k.boards) (ap (λ (t : Played). t.rounds) handed ∙ k.rounds)
      (ap (λ (t : Played). t.ending) handed ∙ k.ending)

-- ---- Begin, and the first header

-- some of 32 places hold a board
any_board_lem : (count : ℕ) (boards : List Board) → count ≤ 32 → length boards ≡ 32 → ltb 0 count ≡ any_board (take count boards)
any_board_lem count boards few long =
    let l : length (take count boards) ≡ count = omega (arith, length-take count boards) in
    rw l
    (agree (ltb 0 count) (not (eqb count 0)) (λ h. ap not (ne_eqb count 0 (omega (arith, ltb-true 0 count h))))
    (λ h. lt-ltb 0 count (omega (arith, eqb-false count 0 (not-true (eqb count 0) h)))))

module _ (m : Machine) (boards : List Board) (count end : ℕ) (buffer : List ℕ) {b : Stepped} {stand : List ℕ}
    (opens : b ≡ stepped (begun m 0 0 0 0 (length buffer))) (wrote : stand ≡ written (begun m 0 0 0 0 (length buffer)) buffer) where
  -- what is kept behind Begin, with the ending that the header leaves
  abbrev begun-kept : Played
  begun-kept = record { machine = b.machine; boards = boards; at = b.count; rounds = 0; ending = end }

  begun_kept :
      let s = begun m 0 0 0 0 (length buffer - 0) in
      Keeps (drop count boards) buffer begun-kept stand
      (record { machine = s.machine; boards = take count boards; cells = s.cells; rounds = []; ending = end })
  begun_kept =
      subst
      (λ n.
      let s = begun m 0 0 0 0 n in
      Keeps (drop count boards) buffer begun-kept stand
      (record { machine = s.machine; boards = take count boards; cells = s.cells; rounds = []; ending = end }))
      (sym (sub-zero (length buffer)))
      (record {
        machine = ap (λ (t : Stepped). t.machine) opens;
        boards = sym (take-append-drop count boards);
        at = ap (λ (t : Stepped). t.count) opens;
        fits = (begun_fits m (length buffer) 0 0 0 0).1;
        cells = wrote;
        rounds = refl;
        ending = refl;
      })

  -- then the answer to the header, and no rounds yet
  pub opened_kept : {kept : Played} {stand' : List ℕ} → count ≤ 32 → length boards ≡ 32 → end ≡ cond (ltb 0 count) 0 5
      → kept ≡ told begun-kept (stepped (answered b.machine (ltb 0 count) (length stand - b.count)))
      → stand' ≡ lay_at b.count (answered b.machine (ltb 0 count) (length stand - b.count)).cells stand
      → Keeps (drop count boards) buffer kept stand' (opened (length buffer) m (take count boards))
  unfolding opened
  opened_kept few long e handed left =
      rw (← any_board_lem count boards few long)
      (keeps_onward (λ n. answered n (ltb 0 count)) (λ n room. (answered_fits n room (ltb 0 count)).1) begun_kept handed left
      (ap (λ (t : Played). t.boards) handed ∙ sym (take-append-drop count boards)) (ap (λ (t : Played). t.rounds) handed)
      (ap (λ (t : Played). t.ending) handed ∙ e))

-- ---- an offer

module _ {behind : List Board} {buffer : List ℕ} {kept : Played} {stand : List ℕ} {p : Play} (k : Keeps behind buffer kept stand p)
    (heard h : Heard) (flip : ℕ) (long : length h.still ≡ length p.boards)
    (same : heard.identity ≡ h.identity) (nobody : heard.still ≡ h.still ++ replicate (length behind) false)
    {l : Played} {stand₁ : List ℕ}
    (handed : l ≡ told kept (stepped (identified kept.machine (bytes_of 8 heard.identity) (length stand - kept.at))))
    (left : stand₁ ≡ lay_at kept.at (identified kept.machine (bytes_of 8 heard.identity) (length stand - kept.at)).cells stand) where
  -- the machine has listened
  listened-kept : Keeps behind buffer l stand₁ (listened (length buffer) h p)
  listened-kept =
      let room = length stand - kept.at in
      keeps_called (λ m. identified m (bytes_of 8 h.identity)) (λ m room. (identified_fits m room (bytes_of 8 h.identity)).1) k
      (handed ∙ ap (λ n. told kept (stepped (identified kept.machine (bytes_of 8 n) room))) same)
      (left ∙ ap (λ n. lay_at kept.at (identified kept.machine (bytes_of 8 n) room).cells stand) same)

  -- then its offer is answered
  module _ {byte offered : ℕ} (offers : offered ≡ offered_byte l.machine.offered) (flips : byte ≡ flipped flip offered)
      {someone odd : Bool} (stays : someone ≡ anyone heard.still) (ones : odd ≡ odd_ones byte)
      {a : Played} {stand₂ : List ℕ}
      (handed₂ : a ≡ told l (stepped (answered l.machine (someone && odd) (length stand₁ - l.at))))
      (left₂ : stand₂ ≡ lay_at l.at (answered l.machine (someone && odd) (length stand₁ - l.at)).cells stand₁)
      {after : List Board} (saw : after ≡ after_byte byte heard.still a.boards)
      {end : ℕ} (ends : end ≡ cond (is_idle a.machine.moment) (offer_ending (someone && odd) a.machine.table.facts a.machine.table.rows) 0) where
    seen : byte ≡ byte_seen flip (listened (length buffer) h p)
    seen = flips ∙ ap (flipped flip) (offers ∙ ap (λ (m : Machine). offered_byte m.offered) listened-kept.machine)

    taken : (someone && odd) ≡ is_taken (byte_seen flip (listened (length buffer) h p)) h
    taken = ap₂ ◌&&◌ (stays ∙ ap anyone nobody ∙ anyone_behind h.still (length behind)) (ones ∙ ap odd_ones seen)

    pub offer-kept :
        Keeps behind buffer (record { machine = a.machine; boards = after; at = a.at; rounds = a.rounds + 1; ending = end }) stand₂
        (offered_on (length buffer) flip h p)
    unfolding offered_on
    offer-kept =
        let q = listened (length buffer) h p in
        let byte' = byte_seen flip q in
        let took = is_taken byte' h in
        let room = length stand₁ - l.at in
        let call : Machine → ℕ → Step = λ m. answered m took in
        let short : (m : Machine) (n : ℕ) → length (answered m took n).cells ≤ n = λ m n. (answered_fits m n took).1 in
        let by : a ≡ told l (stepped (answered l.machine took room)) = handed₂ ∙ ap (λ t. told l (stepped (answered l.machine t room))) taken in
        let on : stand₂ ≡ lay_at l.at (answered l.machine took room).cells stand₁ =
        left₂ ∙ ap (λ t. lay_at l.at (answered l.machine t room).cells stand₁) taken in
        let boards : a.boards ≡ kept.boards = ap (λ (t : Played). t.boards) handed₂ ∙ ap (λ (t : Played). t.boards) handed in
        let rounds : a.rounds ≡ kept.rounds = ap (λ (t : Played). t.rounds) handed₂ ∙ ap (λ (t : Played). t.rounds) handed in
        keeps_onward call short listened-kept by on
        (saw ∙ ap₂ (λ (fs : List Bool) (bs : List Board). after_byte byte fs bs) nobody (boards ∙ k.boards) ∙ after_behind byte h.still p.boards behind long
        ∙ ap (λ n. after_byte n h.still p.boards ++ behind) seen)
        (omega (arith, rounds, k.rounds, length-append p.rounds (round_of byte' h q ∷ [])))
        (ends ∙ ap₂ (ending_at) taken (keeps_machine call short listened-kept by on))

-- ---- a round

module _ {behind : List Board} {buffer : List ℕ} {kept : Played} {stand : List ℕ} {p : Play} (k : Keeps behind buffer kept stand p)
    (count flip : ℕ) (many : length p.boards ≡ count) (places : length kept.boards ≡ 32)
    {still : List Bool} (stand_by : still ≡ waiting_first count kept.boards) {heard : Bool} (answers-it : heard ≡ anyone still)
    {a : Played} {stand₁ : List ℕ}
    (handed : a ≡ told kept (stepped (answered kept.machine heard (length stand - kept.at))))
    (left : stand₁ ≡ lay_at kept.at (answered kept.machine heard (length stand - kept.at)).cells stand) where
  -- who is in, with nobody behind them
  in_round : still ≡ waiting p.boards ++ replicate (length behind) false
  in_round = stand_by ∙ ap (waiting_first count) k.boards ∙ waiting-first count p.boards behind many (ap length (sym k.boards) ∙ places)

  heard_it : heard ≡ anyone (waiting p.boards)
  heard_it = answers-it ∙ ap anyone in_round ∙ anyone_behind (waiting p.boards) (length behind)

  headed-kept : Keeps behind buffer a stand₁ (headed (length buffer) p)
  headed-kept =
      let room = length stand - kept.at in
      let any_in = anyone (waiting p.boards) in
      keeps_called (λ m. answered m any_in) (λ m n. (answered_fits m n any_in).1) k
      (handed ∙ ap (λ t. told kept (stepped (answered kept.machine t room))) heard_it)
      (left ∙ ap (λ t. lay_at kept.at (answered kept.machine t room).cells stand) heard_it)

  -- a silent header
  pub silent_kept : heard ≡ false → Keeps behind buffer a stand₁ (round_on (length buffer) flip p)
  unfolding round_on
  silent_kept e =
      cond_by (λ (q : Play). Keeps behind buffer a stand₁ q) (anyone (waiting p.boards))
      (λ t. absurd (true≢false (sym t ∙ sym heard_it ∙ e))) (λ _. headed-kept)

  -- an answered one, and an offer that leads on
  pub answered_kept : heard ≡ true → {then : Heard} → then ≡ hear 64 a.boards still 0 → {kept' : Played} {stand₂ : List ℕ}
      → KeepsOffer then flip a stand₁ kept' stand₂ → Keeps behind buffer kept' stand₂ (round_on (length buffer) flip p)
  unfolding round_on
  answered_kept e {then} hears {kept'} {stand₂} leads =
      let bs = p.boards in
      let long : length (waiting bs) ≡ length bs = length-map bs waits in
      let same = hears ∙ ap₂ (λ (l : List Board) (fs : List Bool). hear 64 l fs 0) (ap (λ (t : Played). t.boards) handed ∙ k.boards) in_round ∙ hear_behind 64 bs behind (waiting bs) 0 long in
      cond_by (λ (q : Play). Keeps behind buffer kept' stand₂ q) (anyone (waiting bs))
      (λ _.
      leads behind buffer (headed (length buffer) p) (hear 64 bs (waiting bs) 0) (still_long 64 bs (waiting bs) 0 long)
      (ap (λ (t : Heard). t.identity) same) (ap (λ (t : Heard). t.still) same) headed-kept)
      (λ f. absurd (true≢false (sym e ∙ heard_it ∙ f)))
