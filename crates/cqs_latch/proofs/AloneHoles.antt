-- A queue of a latch in simple mode, of which every pass is idle: those who wait are ahead of the resumes, and so are
-- those that left; and whatever is neither in the line nor left was reached.
use Rattle.std.proofs.Common.{◌≡◌, ◌≢◌, ◌⊎◌, inl, inr, ℕ, ◌+◌, ◌<◌, ◌≤◌, ◌||◌, nat_le, leb-true, le-leb, Bool, true, false, List, [], ◌∷◌, length, Option, Some, None, slice_get, sym, refl, ap, ◌∙◌, subst, arith, ⊎_elim, zero-add, ne_eqb, eq-eqb}
use Rattle.std.proofs.lemmas.Bool.{cases_lt, cases_eq, or_left}
use Rattle.std.proofs.lemmas.Option.{same_Some}
use Rattle.cqs_core.specs.declared.cells.CoreCell.{CoreCell}
use Rattle.cqs_core.specs.declared.cells.CoreState.{CoreState}
use Rattle.cqs_core.specs.declared.cells.CoreState.TheVariants as state
use Rattle.cqs_core.specs.declared.doings.Doing.{Doing}
use Rattle.cqs_core.specs.declared.doings.Doing.TheVariants as doing
use Rattle.cqs_core.specs.Keyed.{insert_by, without}
use Rattle.cqs_core.specs.Numbered.{IsIn}
use Rattle.cqs_core.specs.QueueAsRefused.{as_refused, refused_state}
use Rattle.cqs_core.specs.QueueLine as queue
use Rattle.cqs_core.specs.QueueLine.{Service, Waiting, in_line, is_unmet, is_unmet_refusal, stays_in_line, waiting_of}
use Rattle.cqs_core.specs.QueueSound.{IsSound, IsSoundAt}
use Rattle.cqs_core.specs.QueueState.{Queue, owner_doing, has_ticket}
use Rattle.cqs_core.specs.QueueWaiters.{Waits, Waiters, waiters, is_reached, with_service}
use Rattle.cqs_core.specs.Resting.{IsIdle}
use Rattle.cqs_core.proofs.IdleLines.{in-placed, picked-rising, read-off, served-reached}
use Rattle.cqs_core.proofs.LineReads.{line-keyed}
use Rattle.cqs_core.proofs.Picked.{IsKeyed, picked-in}
use Rattle.cqs_core.proofs.Places.{get-there}
use Rattle.cqs_core.proofs.QueueAsRefused.{refused-get}
use Rattle.cqs_core.proofs.Quiet.{IsQuietAt, quiet-cell}
use Rattle.cqs_core.proofs.Rising.{IsRising, in-behind, in-none, rising-above}
use Rattle.cqs_core.proofs.Tickets.{has_ticket-none}
use Rattle.cqs_core.proofs.Waits.{found-waits}
use Rattle.cqs_latch_object.specs.LatchShown.{hole_of, holes, is_hole}
use Rattle.cqs_latch_object.proofs.Holes.{number}

-- a cell that a resumption is to end at
record IsLeftAt (q : Queue) (k : ℕ) : Type 0 where
  pub cell : CoreCell
  pub there : slice_get q.cells k ≡ Some cell
  pub refused : cell.state ≡ state.Refused
  pub unmet : is_unmet q.resumes q.doing k cell ≡ true

refused-where : (resumes k : ℕ) (passes : List Doing) (s : CoreState) → is_unmet_refusal resumes passes k s ≡ true
    → s ≡ state.Refused
refused-where resumes k passes state.Refused unmet = refl
refused-where resumes k passes _ unmet = absurd (cc)

hole-here : (k n : ℕ) (b : Bool) → hole_of k b ≡ Some n → (n ≡ k) × (b ≡ true)
hole-here k n true some = (cc, refl)
hole-here k n false some = absurd (cc)

hole-keyed : (resumes : ℕ) (passes : List Doing) → IsKeyed (is_hole resumes passes) number
hole-keyed resumes passes =
    record { at = λ k cell n some. (hole-here k n (is_unmet resumes passes k cell) some).0 }

left-at : (q : Queue) (k : ℕ) → IsIn k (holes q) → IsLeftAt q k
left-at q k stands =
    let r = read-off (is_hole q.resumes q.doing) 0 q.cells k stands in
    let here = hole-here (0 + r.place) k (is_unmet q.resumes q.doing (0 + r.place) r.element) r.reads in
    let is : r.place ≡ k = sym (zero-add r.place) ∙ sym here.0 in
    let unmet : is_unmet q.resumes q.doing k r.element ≡ true =
    subst (λ n. is_unmet q.resumes q.doing n r.element ≡ true) (sym here.0) here.1 in
    record {
      cell = r.element;
      there = subst (λ n. slice_get q.cells n ≡ Some r.element) is r.there;
      refused = refused-where q.resumes k q.doing r.element.state unmet;
      unmet = unmet;
    }

-- its number was drawn to wait at
pub hole-drawn : (q : Queue) (k : ℕ) → IsSound q → IsIn k (holes q) → k < q.suspends
hole-drawn q k sound stands =
    let l = left-at q k stands in
    let at : IsSoundAt q k l.cell state.Refused =
    subst (λ (s : CoreState). IsSoundAt q k l.cell s) l.refused (sound.cells.at k l.cell l.there) in
    at.0.drawn

waits-nowhere : (k : ℕ) (owner : Option ℕ) (x : Waiting) → waiting_of k owner false ≡ Some x → ⊥
waits-nowhere k None x is = absurd (cc)
waits-nowhere k (Some p) x is = absurd (cc)

-- nobody waits there
pub hole-apart : (q : Queue) (k : ℕ) (x : Waiting) → IsIn k (holes q) → IsIn x (queue.line q) → x.wait ≡ k → ⊥
hole-apart q k x left stands same =
    let l = left-at q k left in
    let r = read-off (in_line q.doing) 0 q.cells x stands in
    let key : x.wait ≡ 0 + r.place = (line-keyed q.doing).at (0 + r.place) r.element x r.reads in
    let is : 0 + r.place ≡ k = sym key ∙ same in
    let there : slice_get q.cells k ≡ Some r.element =
    subst (λ n. slice_get q.cells n ≡ Some r.element) (sym (zero-add r.place) ∙ is) r.there in
    let one : r.element ≡ l.cell = same_Some r.element l.cell (sym there ∙ l.there) in
    let refused : r.element.state ≡ state.Refused = ap (λ (c : CoreCell). c.state) one ∙ l.refused in
    let reads : waiting_of (0 + r.place) r.element.owner
    (stays_in_line (0 + r.place) r.element.state (owner_doing q.doing r.element)) ≡ Some x = r.reads in
    waits-nowhere (0 + r.place) r.element.owner x
    (subst (λ (s : CoreState). waiting_of (0 + r.place) r.element.owner
    (stays_in_line (0 + r.place) s (owner_doing q.doing r.element)) ≡ Some x) refused reads)

-- the numbers that were left rise
pub holes-rise : (q : Queue) → IsRising number 0 (0 + length q.cells) (holes q)
holes-rise q =
    picked-rising (is_hole q.resumes q.doing) number (hole-keyed q.resumes q.doing) 0 (0 + length q.cells) q.cells refl

-- a number that is below the others of a rising list is the first
pub first-hole : (k r low high : ℕ) (ks : List ℕ) → IsRising number low high ks → IsIn k ks → k < r
    → ((h : ℕ) → IsIn h (without number k ks) → r ≤ h) → ks ≡ k ∷ without number k ks
first-hole k r low high [] rising stands below rest = absurd (in-none k stands)
first-hole k r low high (x ∷ ks) rising stands below rest = go (cases_eq k x)
  where
    go : (k ≡ x) ⊎ (k ≢ x) → x ∷ ks ≡ k ∷ without number k (x ∷ ks)
    go (inl same) = rw (eq-eqb k x same) (ap (λ n. n ∷ ks) (sym same))
    go (inr other) =
        let later : IsIn k ks = ⊎_elim (λ e. absurd (other e)) (λ l. l) (in-behind k x ks stands) in
        let stays : IsIn x (without number k (x ∷ ks)) =
        rw (ne_eqb k x other) (record { place = 0; there = refl }) in
        let past : r ≤ x = rest x stays in
        let above : x + 1 ≤ k = rising-above number (x + 1) high k ks rising.1 later in
        absurd (omega (arith, below, past, above))

never-cancelled : (s : CoreState) → refused_state s ≡ state.Cancelled → ⊥
never-cancelled state.Cancelled is = absurd (cc)
never-cancelled _ is = absurd (cc)

module _ (q : Queue) (sound : IsSound q) (idle : IsIdle q.doing) where
  no-ticket : (k : ℕ) → has_ticket k q.doing ≡ false
  no-ticket k = has_ticket-none q.doing k (λ p has. let rests = idle.at p (doing.Ticket k) has in cc)

  -- those that left are ahead of the resumes
  pub holes-ahead : (k : ℕ) → IsIn k (holes q) → q.resumes ≤ k
  holes-ahead k stands =
      let l = left-at q k stands in
      let unmet : is_unmet_refusal q.resumes q.doing k state.Refused ≡ true =
      subst (λ (s : CoreState). is_unmet_refusal q.resumes q.doing k s ≡ true) l.refused l.unmet in
      go (nat_le q.resumes k) (has_ticket k q.doing) refl (no-ticket k) unmet
    where
      go : (a b : Bool) → nat_le q.resumes k ≡ a → b ≡ false → (a || b) ≡ true → q.resumes ≤ k
      go true b is none unmet = leb-true q.resumes k is
      go false b is none unmet = absurd (cc)

  -- Who was served was reached.
  pub served-behind : (w : Waiters) (k c : ℕ) → Waits k c w.line → is_reached w k ≡ waiters q → k < q.resumes
  served-behind w k c waits shows =
      let found = found-waits k c w.line waits in
      let y : Service = record { wait = found.wait.wait; pass = found.wait.pass; is_open = true } in
      let there : IsIn y (insert_by (λ (s : Service). s.wait) y w.served) =
      in-placed (λ (s : Service). s.wait) y w.served in
      let there_too : IsIn y (is_reached w k).served =
      subst (λ z. IsIn y (with_service z w.served)) (sym found.is) there in
      let reached : y.wait < q.resumes =
      served-reached q sound idle y (subst (λ (z : Waiters). IsIn y z.served) shows there_too) in
      let number : found.wait.wait ≡ k = found.number in
      omega (arith, number, reached)

waits-here : (passes : List Doing) (k p : ℕ) (cell : CoreCell) → cell.state ≡ state.Waiter → cell.owner ≡ Some p
    → in_line passes k cell ≡ Some (record { wait = k; pass = p })
waits-here passes k p cell is owned = rw (is, owned) refl

-- And a number was reached that was drawn, at which nobody waits, and which isn't left any more.
module _ (q : Queue) (sound : IsSound (as_refused q)) (idle : IsIdle q.doing) (k : ℕ)
    (drawn : k < q.suspends) (apart : (x : Waiting) → IsIn x (queue.line (as_refused q)) → x.wait ≡ k → ⊥)
    (met : IsIn k (holes (as_refused q)) → ⊥) where
  abbrev reads : Queue
  reads = as_refused q

  quiet : (cell : CoreCell) (s : CoreState) → slice_get reads.cells k ≡ Some cell → cell.state ≡ s
      → IsQuietAt reads k cell s
  quiet cell s there is =
      subst (λ (z : CoreState). IsQuietAt reads k cell z) is (quiet-cell reads sound idle k cell there)

  reached-so : (cell : CoreCell) (s : CoreState) → slice_get reads.cells k ≡ Some cell → cell.state ≡ s
      → s ≢ state.Cancelled → (k < q.resumes) ⊎ (q.resumes ≤ k) → k < q.resumes
  reached-so cell s there is never (inl reached) = reached
  reached-so cell state.Empty there is never (inr ahead) = absurd (quiet cell state.Empty there is)
  reached-so cell state.Waiter there is never (inr ahead) =
      let at : IsSoundAt reads k cell state.Waiter =
      subst (λ (z : CoreState). IsSoundAt reads k cell z) is (sound.cells.at k cell there) in
      let x : Waiting = record { wait = k; pass = at.0.pass } in
      let here : in_line q.doing k cell ≡ Some x = waits-here q.doing k at.0.pass cell is at.0.owner in
      absurd (apart x (picked-in (in_line q.doing) 0 reads.cells k k cell x (omega arith) there here) refl)
  reached-so cell state.Value there is never (inr ahead) =
      let at = quiet cell state.Value there is in let past = at.0 in absurd (omega arith)
  reached-so cell state.Taken there is never (inr ahead) = (quiet cell state.Taken there is).1
  reached-so cell state.Broken there is never (inr ahead) = absurd (quiet cell state.Broken there is)
  reached-so cell state.Resumed there is never (inr ahead) = (quiet cell state.Resumed there is).1
  reached-so cell state.Cancelling there is never (inr ahead) = absurd (quiet cell state.Cancelling there is)
  reached-so cell state.Delegated there is never (inr ahead) = absurd (quiet cell state.Delegated there is)
  reached-so cell state.Cancelled there is never (inr ahead) = absurd (never refl)
  reached-so cell state.Refused there is never (inr ahead) =
      let unmet : is_unmet q.resumes q.doing k cell ≡ true =
      rw is (or_left (nat_le q.resumes k) (has_ticket k q.doing) (le-leb q.resumes k ahead)) in
      let here : is_hole q.resumes q.doing k cell ≡ Some k = ap (hole_of k) unmet in
      absurd (met (picked-in (is_hole q.resumes q.doing) 0 reads.cells k k cell k (omega arith) there here))

  pub missed-behind : k < q.resumes
  missed-behind =
      let made = sound.made in
      let few : k < length reads.cells = omega (arith, made, drawn) in
      let found = get-there reads.cells k few in
      let read = refused-get q.cells k found.0 found.1 in
      reached-so found.0 found.0.state found.1 refl
      (λ is. never-cancelled read.cell.state (ap (λ (c : CoreCell). c.state) read.is ∙ is))
      (cases_lt k q.resumes)
