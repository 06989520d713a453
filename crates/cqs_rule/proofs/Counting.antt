-- A cell that a step settled is counted right after the step.
use Rattle.std.proofs.Common.{◌≡◌, ◌≢◌, ℕ, ◌/◌, ◌<◌, ◌≤◌, ◌^◌, Bool, true, false, List, [], Some, ◌∷◌, length, ◌==◌, if◌then◌else◌, Option, None, refl, ap, sym, ◌∙◌, subst, ⊎_elim, inl, inr, arith}
use Rattle.cqs_core.specs.declared.cells.CoreState.{CoreState}
use Rattle.cqs_core.specs.declared.cells.CoreState.TheVariants as state
use Rattle.cqs_core.specs.QueueStages.{IsUnmet}
use Rattle.cqs_core.specs.QueueSteps.{QueueStep, row_of, StepRow, at_counter, at_cell}
use Rattle.cqs_slots.specs.Layout.{slot_words}
use Rattle.cqs_slots.specs.Slots.{IsHome}
use Rattle.cqs_slots.proofs.Lists.{has_prefix, home-prefix}
use Rattle.cqs_slots.proofs.Loads.{sees-then}
use Rattle.cqs_words.specs.declared.cell.CellState.{CellState}
use Rattle.cqs_words.specs.declared.cell.CellState.TheVariants as shown
use Rattle.cqs_words.specs.declared.cell.CellWord.{CellWord}
use Rattle.cqs_words.specs.Cell.{index_in, unpacked_cell}
use Rattle.cqs_rule_laws.specs.declared.client.ClientWords.{Ghosts}
use Rattle.cqs_rule_laws.specs.declared.loads.Learned.{Learned}
use Rattle.cqs_rule_laws.specs.declared.loads.Learned.TheVariants.{Nothing, Granted, Ended, Settled}
use Rattle.cqs_rule_laws.specs.declared.view.Facts.{Facts}
use Rattle.cqs_rule_laws.specs.declared.view.Glimpse.{Glimpse}
use Rattle.cqs_rule_laws.specs.declared.view.Spare.{Spare}
use Rattle.cqs_rule_laws.specs.declared.view.View.{View}
use Rattle.cqs_rule_laws.specs.Alone.{TellsAlone}
use Rattle.cqs_rule_laws.specs.Exchanges.{CrossedBy, MayExchange}
use Rattle.cqs_rule_laws.specs.Facts.{facts_after, is_owing}
use Rattle.cqs_rule_laws.specs.Hidden.{Hidden}
use Rattle.cqs_rule_laws.specs.Inside.{IsInside}
use Rattle.cqs_rule_laws.specs.Kinds.{change_by}
use Rattle.cqs_rule_laws.specs.Layout.{words_for}
use Rattle.cqs_rule_laws.specs.Lists.{Has, IsPrefix}
use Rattle.cqs_rule_laws.specs.Loads.{LoadStep, counts, watches, polls, cancels, meets, misses, sees, finds, refused_in, cancelled_in, taken_in, broken_in, CarriesLearned, event_of, facts_looked, IsTicketOf, learned_of, learns, Loaded, Looked, MayLoad, MayLook, MayStand, served_in, told_at}
use Rattle.cqs_rule_laws.specs.Object.{Object, Primitive}
use Rattle.cqs_rule_laws.specs.Placed.{KnowsPlace, place_at}
use Rattle.cqs_rule_laws.specs.Ruled.{number_at, shown_state, word_of}
use Rattle.cqs_rule_laws.specs.Saw.{IsLive, Saw, WasFound, WasShown}
use Rattle.cqs_rule_laws.specs.Slots.{LaysNone}
use Rattle.cqs_rule_laws.specs.Views.{IsSame}
use Rattle.cqs_rule_laws.specs.SegmentSteps.{LeftBy, retiring_too}
use Rattle.cqs_rule_laws.specs.Settling.{duties_then}
use Rattle.cqs_rule_laws.proofs.CellLoads.{word-learned}
use Rattle.cqs_rule_laws.proofs.CellsStand.{word-number}
use Rattle.cqs_segment.specs.Finds.{HasDone}
use Rattle.cqs_segment.specs.Walks.{but_last, EndsAt, IsWalker}
use Rattle.cqs_segment.proofs.Walks.{looked-none}
use Rattle.cqs_rule.specs.Counting.{Counted, counted_after, LoadedThen}
use Rattle.cqs_rule.specs.declared.queue.Pass.{Pass}
use Rattle.cqs_rule.specs.declared.queue.Queue.{Queue}
use Rattle.cqs_rule.specs.declared.queue.spares.Spares.{Spares}
use Rattle.cqs_rule.specs.Passes.{IsOf, pass_view}
use Rattle.cqs_rule.specs.Spares.{HasSpare}
use Rattle.cqs_rule.specs.declared.queue.homes.Homes.{Homes}
use Rattle.cqs_rule.specs.Homes.{KnowsHomes}
use Rattle.cqs_rule.proofs.Homes.{goes-left, keeps-homes}
use Rattle.cqs_rule.proofs.Moved.{Keeps}
use Rattle.cqs_rule.proofs.Places.{knows-saw}
use Rattle.cqs_rule.proofs.Retired.{then-retired}
use Rattle.cqs_rule.proofs.Segments.{alone-left, inside-left, live-left}

abbrev head_of : List ℕ → ℕ
head_of [] = 0
head_of (x ∷ l) = x

-- the number that was counted, as the program compares it
pub all-counted : {n m : ℕ} → m ≡ 32 → m ≡ n → n ≡ 32
all-counted all is = sym is ∙ all

pub fewer-counted : {n m : ℕ} → n ≤ 32 → m ≢ 32 → m ≡ n → n < 32
fewer-counted few other is = omega (arith, is)

-- one duty is the last
pub last-of-one : (duties : List ℕ) (s : ℕ) → duties ≡ s ∷ [] → EndsAt duties s × (but_last duties ≡ [])
last-of-one duties s is =
    subst (λ l. EndsAt l s × (but_last l ≡ [])) (sym is) (refl, refl)

module _ {E S : Type 0} where
  -- a slot is one of the table, and the home of its segment, after the cell was counted
  pub low-then : (v w : View E S) (heads : List (ℕ × ℕ)) (spares : List Spare) (duties : List ℕ) (x : ℕ)
      → LeftBy heads spares duties v w → x < v.slots → x < w.slots
  low-then v w heads spares duties x left low =
      subst (λ (z : View E S). x < z.slots) (sym left.is) low

  pub all-then : (v w : View E S) (heads : List (ℕ × ℕ)) (spares : List Spare) (duties : List ℕ) (words n : ℕ)
      → LeftBy heads spares duties v w → IsWalker words v → words ≡ slot_words n → n ≡ w.slots
  all-then v w heads spares duties words n left walker is =
      let same = ap (λ (z : View E S). z.slots) left.is in
      let wide = walker.wide in omega arith

  pub home-then : (v w : View E S) (heads : List (ℕ × ℕ)) (spares : List Spare) (duties : List ℕ) (s x : ℕ)
      → LeftBy heads spares duties v w → IsHome v.segments.homes s x → IsHome w.segments.homes s x
  home-then v w heads spares duties s x left home =
      home-prefix v.segments.homes w.segments.homes s x left.segments.homes home

  -- no cell was to be counted
  pub counted-none : (v : View E S) → v.facts.duties ≡ [] → Counted v v
  counted-none v none = record {
    heads = [];
    few = omega arith;
    full = λ s one. inl refl;
    left = subst (λ d. LeftBy [] v.facts.spare_slots d v v) none (looked-none v);
    none = λ e. refl;
  }

  -- the cell was counted, and its segment stays
  pub counted-one : (v w : View E S) (s : ℕ) → v.facts.duties ≡ s ∷ []
      → LeftBy [] v.facts.spare_slots (but_last v.facts.duties) v w → Counted v w
  counted-one v w s one left = record {
    heads = [];
    few = omega arith;
    full = λ q is. inl refl;
    left = subst (λ d. LeftBy [] v.facts.spare_slots d v w) (last-of-one v.facts.duties s one).1 left;
    none = λ e. let not = sym one ∙ e in absurd (cc);
  }

  -- or was to leave
  pub counted-last : (v u w : View E S) (s : ℕ) → v.facts.duties ≡ s ∷ []
      → v.facts.to_retire ≡ [] → LeftBy [] v.facts.spare_slots (but_last v.facts.duties) (retiring_too s v) u
      → Has s u.segments.full → HasDone s u w → Counted v w
  counted-last v u w s one nobody left full done =
      let first = subst (λ d. LeftBy [] v.facts.spare_slots d (retiring_too s v) u)
      (last-of-one v.facts.duties s one).1 left in
      let more = then-retired v u w [] v.facts.spare_slots [] s nobody first done in record {
        heads = more.0;
        few = subst (λ d. length more.0 ≤ length d) (sym one) more.1;
        full = λ q is.
            let same : q ≡ s = ap head_of (sym is ∙ one) in
            inr (subst (λ z. Has z w.segments.full) (sym same)
            (has_prefix s u.segments.full w.segments.full done.left.segments.full full));
        left = more.2;
        none = λ e. let not = sym one ∙ e in absurd (cc);
      }

-- The cell of the number k, which the pass knows to stand at this word, is the one that it is to count.
pub record IsToCount {E S : Type 0} (word k : ℕ) (w : View E S) : Type 0 where
  pub place : KnowsPlace w (place_at word k)
  pub small : k < 2 ^ 40
  pub one : w.facts.duties ≡ (k / 32) ∷ []

-- What a pass is to count after a load of this word that found n: by what it learned the cell of the word's number, or
-- that of the number of its ticket, or none.
abbrev pub LeavesToCount : {E S : Type 0} → Learned → ℕ → ℕ → ℕ → View E S → Type 0
LeavesToCount Nothing word n number w = w.facts.duties ≡ []
LeavesToCount Granted word n number w = IsToCount word (index_in n) w
LeavesToCount Ended word n number w = IsToCount word number w
LeavesToCount Settled word n number w = IsToCount word (index_in n) w

-- A resume in smart and in simple mode learns nothing that only a synchronous one does.

refused-else : (x : CellState) → refused_in x ≡ Settled → ⊥
refused-else shown.Empty e = absurd (cc)
refused-else shown.Waiter e = absurd (cc)
refused-else shown.Value e = absurd (cc)
refused-else shown.Taken e = absurd (cc)
refused-else shown.Broken e = absurd (cc)
refused-else shown.Resumed e = absurd (cc)
refused-else shown.Cancelling e = absurd (cc)
refused-else shown.Delegated e = absurd (cc)
refused-else shown.Cancelled e = absurd (cc)
refused-else shown.Refused e = absurd (cc)

cancelled-else : (x : CellState) → cancelled_in x ≡ Settled → ⊥
cancelled-else shown.Empty e = absurd (cc)
cancelled-else shown.Waiter e = absurd (cc)
cancelled-else shown.Value e = absurd (cc)
cancelled-else shown.Taken e = absurd (cc)
cancelled-else shown.Broken e = absurd (cc)
cancelled-else shown.Resumed e = absurd (cc)
cancelled-else shown.Cancelling e = absurd (cc)
cancelled-else shown.Delegated e = absurd (cc)
cancelled-else shown.Cancelled e = absurd (cc)
cancelled-else shown.Refused e = absurd (cc)

never-in : (by : CellState → Learned) → ((x : CellState) → by x ≡ Settled → ⊥) → (o : Option CellWord)
    → learned_of by o ≡ Settled → ⊥
never-in by none None e = absurd (cc)
never-in by none (Some cell) e = none cell.state e

module _ {E S : Type 0} (gains : ℕ → ℕ) (word n number : ℕ) (v w : View E S) (owed : is_owing v.facts.doing ≡ true)
    (waits : w.facts.waits ≡ v.facts.waits) where
  -- a resumption goes on
  goes-on : (learned : Learned) → CarriesLearned gains learned v.facts w.facts → is_owing w.facts.doing ≡ true
      → w.facts.duties ≡ [] → LeavesToCount learned word n number w
  goes-on Nothing carries owes duties = duties
  goes-on Granted carries owes duties =
      let fewer = carries.waits in let same = ap length waits in absurd (omega arith)
  goes-on Ended carries owes duties = let over = carries.owes in absurd (cc)
  goes-on Settled carries owes duties = let over = carries.owes in absurd (cc)

  -- or it ended at the cell of its ticket
  ends-there : (learned : Learned) → (learned ≡ Settled → ⊥) → CarriesLearned gains learned v.facts w.facts
      → is_owing w.facts.doing ≡ false
      → IsToCount word number w → LeavesToCount learned word n number w
  ends-there Nothing other carries owes duties = let still = carries.owes in absurd (cc)
  ends-there Granted other carries owes duties =
      let fewer = carries.waits in let same = ap length waits in absurd (omega arith)
  ends-there Ended other carries owes duties = duties
  ends-there Settled other carries owes duties = absurd (other refl)

either-learned : (n k : ℕ) → learns meets k n ≡ Settled → learned_of refused_in (unpacked_cell n) ≡ Settled
either-learned n k e = by (index_in n == k) e
  where
    by : (b : Bool) → (if b then learned_of refused_in (unpacked_cell n) else Nothing) ≡ Settled
        → learned_of refused_in (unpacked_cell n) ≡ Settled
    by true e = e
    by false e = absurd (cc)

module _ {C E S : Type 0} (object : Object E) (primitive : C → Primitive E S) where
  module _ (load : LoadStep) (k n : ℕ) (v w : View E S) (l : Looked object primitive load k v n w) where
    facts-at : (s : CoreState) → l.glimpse.state ≡ s
        → w.facts ≡ facts_looked object.gains (event_of load s) n (record l.glimpse { state = s }) v.facts
    facts-at s is = l.saw.facts_are
        ∙ ap (λ z. facts_looked object.gains (event_of load z) n (record l.glimpse { state = z }) v.facts) is

    low : k < 2 ^ 40
    low = subst (λ z. z < 1099511627776) l.number l.cell.number

    -- the word of a cell that isn't cancelled is its own
    word-at : (s : CoreState) → l.glimpse.state ≡ s → s ≢ state.Cancelled → n ≡ word_of k s l.glimpse.payload
    word-at s is apart = ⊎_elim
        (λ own. own ∙ (λ i. word_of (l.number i) (is i) l.glimpse.payload))
        (λ gone. absurd (apart (sym is ∙ gone.0))) l.cell.word

    cell-learned : (by : CellState → Learned) (s : CoreState) → l.glimpse.state ≡ s → s ≢ state.Cancelled
        → learned_of by (unpacked_cell n) ≡ by (shown_state s)
    cell-learned by s is apart = ap (λ z. learned_of by (unpacked_cell z)) (word-at s is apart)
        ∙ word-learned by k s l.glimpse.payload low l.cell.fits

    -- the cell is to be counted, where the step settled it
    one-more : (word j : ℕ) → j ≡ k → KnowsPlace v (place_at word k) → v.facts.duties ≡ []
        → w.facts.duties ≡ duties_then true l.glimpse.number v.facts.duties → IsToCount word j w
    one-more word j is place none duties = subst (λ z. IsToCount word z w) (sym is) (record {
      place = knows-saw object v w _ _ (place_at word k) l.saw place;
      small = low;
      one = duties ∙ (λ i. duties_then true (l.number i) (none i));
    })

  -- what a load of the cell of the number k leaves the pass to count, by what it learned
  to-count : (load : LoadStep) (learned : Learned) (word k n number : ℕ) (v w : View E S)
      → Looked object primitive load k v n w → KnowsPlace v (place_at word k) → MayLook load v k
      → v.facts.duties ≡ [] → IsTicketOf v.facts.doing number → learned ≡ learns load k n
      → CarriesLearned object.gains.held learned v.facts w.facts → LeavesToCount learned word n number w
  to-count counts learned word k n number v w l place may none ticket is carries = absurd may
  to-count watches learned word k n number v w l place may none ticket is carries = absurd may
  to-count polls learned word k n number v w l place may none ticket is carries = by l.glimpse.state refl l.may
    where
      by : (s : CoreState) → l.glimpse.state ≡ s → MayStand v.opening.sync polls s
          → LeavesToCount learned word n number w
      by state.Empty e stand = absurd stand
      by state.Waiter e stand = subst (λ z. LeavesToCount z word n number w)
          (sym (is ∙ cell-learned polls k n v w l served_in state.Waiter e (λ z. absurd (cc))))
          (ap (λ (f : Facts). f.duties) (facts-at polls k n v w l state.Waiter e) ∙ none)
      by state.Value e stand = absurd stand
      by state.Taken e stand = absurd stand
      by state.Broken e stand = absurd stand
      by state.Resumed e stand = subst (λ z. LeavesToCount z word n number w)
          (sym (is ∙ cell-learned polls k n v w l served_in state.Resumed e (λ z. absurd (cc))))
          (one-more polls k n v w l word (index_in n)
          (ap index_in (word-at polls k n v w l state.Resumed e (λ z. absurd (cc)))
          ∙ word-number k state.Resumed l.glimpse.payload l.cell.fits) place none
          (ap (λ (f : Facts). f.duties) (facts-at polls k n v w l state.Resumed e)))
      by state.Cancelling e stand = absurd stand
      by state.Delegated e stand = absurd stand
      by state.Cancelled e stand = absurd stand
      by state.Refused e stand = absurd stand
  to-count cancels learned word k n number v w l place may none ticket is carries = by l.glimpse.state refl l.may
    where
      by : (s : CoreState) → l.glimpse.state ≡ s → MayStand v.opening.sync cancels s
          → LeavesToCount learned word n number w
      by state.Empty e stand = absurd stand
      by state.Waiter e stand = subst (λ z. LeavesToCount z word n number w)
          (sym (is ∙ cell-learned cancels k n v w l served_in state.Waiter e (λ z. absurd (cc))))
          (ap (λ (f : Facts). f.duties) (facts-at cancels k n v w l state.Waiter e) ∙ none)
      by state.Value e stand = absurd stand
      by state.Taken e stand = absurd stand
      by state.Broken e stand = absurd stand
      by state.Resumed e stand = subst (λ z. LeavesToCount z word n number w)
          (sym (is ∙ cell-learned cancels k n v w l served_in state.Resumed e (λ z. absurd (cc))))
          (one-more cancels k n v w l word (index_in n)
          (ap index_in (word-at cancels k n v w l state.Resumed e (λ z. absurd (cc)))
          ∙ word-number k state.Resumed l.glimpse.payload l.cell.fits) place none
          (ap (λ (f : Facts). f.duties) (facts-at cancels k n v w l state.Resumed e)))
      by state.Cancelling e stand = absurd stand
      by state.Delegated e stand = absurd stand
      by state.Cancelled e stand = absurd stand
      by state.Refused e stand = absurd stand
  to-count meets learned word k n number v w l place may none ticket is carries = by l.glimpse.state refl
    where
      owed : is_owing v.facts.doing ≡ true
      owed = ap is_owing may

      quietly : (s : CoreState) → l.glimpse.state ≡ s → event_of meets s ≡ None → LeavesToCount learned word n number w
      quietly s e silent =
          let at = facts-at meets k n v w l s e
          ∙ ap (λ z. facts_looked object.gains z n (record l.glimpse { state = s }) v.facts) silent in
          goes-on object.gains.held word n number v w owed (ap (λ (f : Facts). f.waits) at) learned carries
          (ap (λ (f : Facts). is_owing f.doing) at ∙ owed) (ap (λ (f : Facts). f.duties) at ∙ none)

      by : (s : CoreState) → l.glimpse.state ≡ s → LeavesToCount learned word n number w
      by state.Empty e = quietly state.Empty e refl
      by state.Waiter e = quietly state.Waiter e refl
      by state.Value e = quietly state.Value e refl
      by state.Taken e = quietly state.Taken e refl
      by state.Broken e = quietly state.Broken e refl
      by state.Resumed e = quietly state.Resumed e refl
      by state.Cancelling e = quietly state.Cancelling e refl
      by state.Delegated e = quietly state.Delegated e refl
      by state.Cancelled e =
          let at = facts-at meets k n v w l state.Cancelled e in
          goes-on object.gains.held word n number v w owed (ap (λ (f : Facts). f.waits) at) learned carries
          (ap (λ (f : Facts). is_owing f.doing) at) (ap (λ (f : Facts). f.duties) at ∙ none)
      by state.Refused e =
          let at = facts-at meets k n v w l state.Refused e in
          ends-there object.gains.held word n number v w owed (ap (λ (f : Facts). f.waits) at) learned
          (λ e. never-in refused_in refused-else (unpacked_cell n) (either-learned n k (sym is ∙ e))) carries
          (ap (λ (f : Facts). is_owing f.doing) at)
          (one-more meets k n v w l word number (ticket k may) place none (ap (λ (f : Facts). f.duties) at))
  to-count misses learned word k n number v w l place may none ticket is carries = by l.glimpse.state refl
    where
      owed : is_owing v.facts.doing ≡ true
      owed = ap is_owing may

      quietly : (s : CoreState) → l.glimpse.state ≡ s → event_of misses s ≡ None → LeavesToCount learned word n number w
      quietly s e silent =
          let at = facts-at misses k n v w l s e
          ∙ ap (λ z. facts_looked object.gains z n (record l.glimpse { state = s }) v.facts) silent in
          goes-on object.gains.held word n number v w owed (ap (λ (f : Facts). f.waits) at) learned carries
          (ap (λ (f : Facts). is_owing f.doing) at ∙ owed) (ap (λ (f : Facts). f.duties) at ∙ none)

      by : (s : CoreState) → l.glimpse.state ≡ s → LeavesToCount learned word n number w
      by state.Empty e = quietly state.Empty e refl
      by state.Waiter e = quietly state.Waiter e refl
      by state.Value e = quietly state.Value e refl
      by state.Taken e = quietly state.Taken e refl
      by state.Broken e = quietly state.Broken e refl
      by state.Resumed e = quietly state.Resumed e refl
      by state.Cancelling e = quietly state.Cancelling e refl
      by state.Delegated e = quietly state.Delegated e refl
      by state.Cancelled e =
          let at = facts-at misses k n v w l state.Cancelled e in
          ends-there object.gains.held word n number v w owed (ap (λ (f : Facts). f.waits) at) learned
          (λ e. never-in cancelled_in cancelled-else (unpacked_cell n) (sym is ∙ e)) carries
          (ap (λ (f : Facts). is_owing f.doing) at)
          (one-more misses k n v w l word number (ticket k may) place none (ap (λ (f : Facts). f.duties) at))
      by state.Refused e = quietly state.Refused e refl
  to-count sees learned word k n number v w l place may none ticket is carries = by l.glimpse.state refl l.may
    where
      by : (s : CoreState) → l.glimpse.state ≡ s → MayStand v.opening.sync sees s
          → LeavesToCount learned word n number w
      by state.Value e stand = subst (λ z. LeavesToCount z word n number w)
          (sym (is ∙ cell-learned sees k n v w l taken_in state.Value e (λ z. absurd (cc))))
          (ap (λ (f : Facts). f.duties) (facts-at sees k n v w l state.Value e) ∙ none)
      by state.Taken e stand = subst (λ z. LeavesToCount z word n number w)
          (sym (is ∙ cell-learned sees k n v w l taken_in state.Taken e (λ z. absurd (cc))))
          (one-more sees k n v w l word (index_in n)
          (ap index_in (word-at sees k n v w l state.Taken e (λ z. absurd (cc)))
          ∙ word-number k state.Taken l.glimpse.payload l.cell.fits) place none
          (ap (λ (f : Facts). f.duties) (facts-at sees k n v w l state.Taken e)))
      by state.Empty e stand = absurd stand
      by state.Waiter e stand = absurd stand
      by state.Broken e stand = absurd stand
      by state.Resumed e stand = absurd stand
      by state.Cancelling e stand = absurd stand
      by state.Delegated e stand = absurd stand
      by state.Cancelled e stand = absurd stand
      by state.Refused e stand = absurd stand
  to-count finds learned word k n number v w l place may none ticket is carries =
      by l.glimpse.state refl (unmet v.opening.sync l.glimpse.state l.may)
    where
      unmet : (sync : Bool) (s : CoreState) → MayStand sync finds s → IsUnmet s
      unmet true s stand = stand
      unmet false state.Empty stand = tt
      unmet false state.Value stand = tt
      unmet false state.Waiter stand = stand
      unmet false state.Taken stand = stand
      unmet false state.Broken stand = absurd stand
      unmet false state.Resumed stand = stand
      unmet false state.Cancelling stand = stand
      unmet false state.Delegated stand = stand
      unmet false state.Cancelled stand = stand
      unmet false state.Refused stand = stand

      by : (s : CoreState) → l.glimpse.state ≡ s → IsUnmet s → LeavesToCount learned word n number w
      by state.Empty e stand = subst (λ z. LeavesToCount z word n number w)
          (sym (is ∙ cell-learned finds k n v w l broken_in state.Empty e (λ z. absurd (cc))))
          (ap (λ (f : Facts). f.duties) (facts-at finds k n v w l state.Empty e) ∙ none)
      by state.Value e stand = subst (λ z. LeavesToCount z word n number w)
          (sym (is ∙ cell-learned finds k n v w l broken_in state.Value e (λ z. absurd (cc))))
          (ap (λ (f : Facts). f.duties) (facts-at finds k n v w l state.Value e) ∙ none)
      by state.Broken e stand = subst (λ z. LeavesToCount z word n number w)
          (sym (is ∙ cell-learned finds k n v w l broken_in state.Broken e (λ z. absurd (cc))))
          (one-more finds k n v w l word (index_in n)
          (ap index_in (word-at finds k n v w l state.Broken e (λ z. absurd (cc)))
          ∙ word-number k state.Broken l.glimpse.payload l.cell.fits) place none
          (ap (λ (f : Facts). f.duties) (facts-at finds k n v w l state.Broken e)))
      by state.Waiter e stand = absurd stand
      by state.Taken e stand = absurd stand
      by state.Resumed e stand = absurd stand
      by state.Cancelling e stand = absurd stand
      by state.Delegated e stand = absurd stand
      by state.Cancelled e stand = absurd stand
      by state.Refused e stand = absurd stand

  -- what any load leaves it
  pub loaded-leaves : (load : LoadStep) (learned : Learned) (word n number : ℕ) (v w : View E S)
      → Loaded object primitive load word v n w → MayLoad load v word → v.facts.duties ≡ []
      → IsTicketOf v.facts.doing number → learned ≡ learns load (number_at v.facts.doing) n
      → CarriesLearned object.gains.held learned v.facts w.facts → LeavesToCount learned word n number w
  loaded-leaves counts learned word n number v w l may none ticket is carries =
      subst (λ z. LeavesToCount z word n number w) (sym is) (ap (λ (f : Facts). f.duties) l.saw.facts_are ∙ none)
  loaded-leaves watches learned word n number v w l may none ticket is carries =
      subst (λ z. LeavesToCount z word n number w) (sym is) (ap (λ (f : Facts). f.duties) l.saw.facts_are ∙ none)
  loaded-leaves polls learned word n number v w l may none ticket is carries =
      to-count polls learned word may.0 n number v w (l may.0 may.1 may.2) may.1 may.2 none ticket is carries
  loaded-leaves cancels learned word n number v w l may none ticket is carries =
      to-count cancels learned word may.0 n number v w (l may.0 may.1 may.2) may.1 may.2 none ticket is carries
  loaded-leaves meets learned word n number v w l may none ticket is carries =
      to-count meets learned word may.0 n number v w (l may.0 may.1 may.2) may.1 may.2 none ticket
      (is ∙ ap (λ z. learns meets z n) (ap number_at may.2)) carries
  loaded-leaves misses learned word n number v w l may none ticket is carries =
      to-count misses learned word may.0 n number v w (l may.0 may.1 may.2) may.1 may.2 none ticket is carries
  loaded-leaves sees learned word n number v w l may none ticket is carries =
      to-count sees learned word may.0 n number v w (l may.0 may.1 may.2) may.1 may.2 none ticket is carries
  loaded-leaves finds learned word n number v w l may none ticket is carries =
      to-count finds learned word may.0 n number v w (l may.0 may.1 may.2) may.1 may.2 none ticket is carries

  -- what is told of a load after which the cell that it settled was counted
  pub told-loaded : (load : LoadStep) (word n : ℕ) (v u w : View E S) → v.facts.duties ≡ []
      → Loaded object primitive load word v n u → Counted u w → LoadedThen object primitive load word v n w
  told-loaded counts word n v u w none l k =
      subst (λ z. Loaded object primitive counts word v n z)
      (sym (k.none (ap (λ (f : Facts). f.duties) l.saw.facts_are ∙ none))) l
  told-loaded watches word n v u w none l k =
      subst (λ z. Loaded object primitive watches word v n z)
      (sym (k.none (ap (λ (f : Facts). f.duties) l.saw.facts_are ∙ none))) l
  told-loaded polls word n v u w none l k = (u, l, k)
  told-loaded cancels word n v u w none l k = (u, l, k)
  told-loaded meets word n v u w none l k = (u, l, k)
  told-loaded misses word n v u w none l k = (u, l, k)
  told-loaded sees word n v u w none l k = (u, l, k)
  told-loaded finds word n v u w none l k = (u, l, k)

  -- no load leaves the pass a segment to retire
  looked-retires : (event : Option QueueStep) (n : ℕ) (g : Glimpse) (f : Facts)
      → (facts_looked object.gains event n g f).to_retire ≡ f.to_retire
  looked-retires None n g f = refl
  looked-retires (Some s) n g f = by (row_of s)
    where
      by : (row : StepRow) → (facts_after object.gains row g.number n (told_at row g.payload f) f).to_retire
          ≡ f.to_retire
      by (at_counter row) = refl
      by (at_cell row) = refl

  one-retires : (load : LoadStep) (k n : ℕ) (v w : View E S) → Looked object primitive load k v n w
      → w.facts.to_retire ≡ v.facts.to_retire
  one-retires load k n v w l = ap (λ (f : Facts). f.to_retire) l.saw.facts_are
      ∙ looked-retires (event_of load l.glimpse.state) n l.glimpse v.facts

  pub loaded-retires : (load : LoadStep) (word n : ℕ) (v w : View E S) → Loaded object primitive load word v n w
      → MayLoad load v word → w.facts.to_retire ≡ v.facts.to_retire
  loaded-retires counts word n v w l may = ap (λ (f : Facts). f.to_retire) l.saw.facts_are
  loaded-retires watches word n v w l may = ap (λ (f : Facts). f.to_retire) l.saw.facts_are
  loaded-retires polls word n v w l may = one-retires polls may.0 n v w (l may.0 may.1 may.2)
  loaded-retires cancels word n v w l may = one-retires cancels may.0 n v w (l may.0 may.1 may.2)
  loaded-retires meets word n v w l may = one-retires meets may.0 n v w (l may.0 may.1 may.2)
  loaded-retires misses word n v w l may = one-retires misses may.0 n v w (l may.0 may.1 may.2)
  loaded-retires sees word n v w l may = one-retires sees may.0 n v w (l may.0 may.1 may.2)
  loaded-retires finds word n v w l may = one-retires finds may.0 n v w (l may.0 may.1 may.2)

  -- nor does an exchange that was made
  pub crossed-retires : (s : QueueStep) (row : StepRow) (k expected : ℕ) (v : View E S) (n : ℕ) (w : View E S)
      → CrossedBy object primitive s row k expected v n w → n ≡ expected → w.facts.to_retire ≡ v.facts.to_retire
  crossed-retires s (at_cell row) k expected v n w crossed made =
      ap (λ (f : Facts). f.to_retire) (crossed.made made).0.facts_are
  crossed-retires s (at_counter row) k expected v n w crossed made = absurd crossed

  -- An exchange that was made, of a row that settles its cell:
  -- that one is the cell that the pass is to count
  pub crossed-one : (s : QueueStep) (row : StepRow) (k word expected new : ℕ) (v : View E S) (n : ℕ) (w : View E S)
      → MayExchange row v k word expected new → CrossedBy object primitive s row k expected v n w → n ≡ expected
      → v.facts.duties ≡ [] → (change_by row).settles ≡ true → IsToCount word k w
  crossed-one s (at_cell row) k word expected new v n w may crossed made none settles =
      let saw = (crossed.made made).0 in record {
        place = knows-saw object v w _ _ (place_at word k) saw may.place;
        small = subst (λ z. z < 1099511627776) crossed.number crossed.cell.number;
        one = ap (λ (f : Facts). f.duties) saw.facts_are ∙ (λ i. duties_then (settles i) k (none i));
      }
  crossed-one s (at_counter row) k word expected new v n w may crossed made none settles = absurd crossed

  -- or there is none
  pub crossed-none : (s : QueueStep) (row : StepRow) (k expected : ℕ) (v : View E S) (n : ℕ) (w : View E S)
      → CrossedBy object primitive s row k expected v n w → n ≡ expected → v.facts.duties ≡ []
      → (change_by row).settles ≡ false → w.facts.duties ≡ []
  crossed-none s (at_cell row) k expected v n w crossed made none settles =
      ap (λ (f : Facts). f.duties) (crossed.made made).0.facts_are ∙ (λ i. duties_then (settles i) k (none i))
  crossed-none s (at_counter row) k expected v n w crossed made none settles = absurd crossed

-- what a pass keeps but for what it is to count
pub record Keeping {E S : Type 0} (w : View E S) (items : List (ℕ × Option S))
    (words number held further : ℕ) (owes : Bool) (waits ticket : ℕ) (spares : Spares)
    (homes : Homes) : Type 0 where
  pub live : (w.weight ≡ 1) × (length items ≡ 0)
  pub number_is : w.number ≡ number
  pub held_is : w.facts.has.held ≡ held
  pub further_is : w.facts.has.further ≡ further
  pub spares_are : HasSpare w.facts.spare_slots w.slots spares
  pub homes_are : KnowsHomes w homes
  pub retired : w.facts.to_retire ≡ []
  pub shut : w.facts.open_slot ≡ None
  pub owes_is : is_owing w.facts.doing ≡ owes
  pub waits_are : length w.facts.waits ≡ waits
  pub ticket_is : IsTicketOf w.facts.doing ticket
  pub slots_are : words_for w.slots ≡ words
  pub inside : IsInside w
  pub few_cells : w.cells < 2 ^ 37

module _ {S E : Type 0} where
  -- and what it keeps once its cell is counted
  pub keeps-counted : (u w : View E S) (items later : List (ℕ × Option S)) (words number held further : ℕ) (owes : Bool)
      (waits ticket : ℕ) (spares : Spares) (homes : Homes)
      → Keeping u items words number held further owes waits ticket spares homes
      → Counted u w → later ≡ items → Keeps w later words number held further owes waits ticket spares homes
  keeps-counted u w items later words number held further owes waits ticket spares homes k c none =
      let is = c.left.is in record {
        live = (ap (λ (z : View E S). z.weight) is ∙ k.live.0, ap length none ∙ k.live.1);
        number_is = ap (λ (z : View E S). z.number) is ∙ k.number_is;
        held_is = ap (λ (z : View E S). z.facts.has.held) is ∙ k.held_is;
        further_is = ap (λ (z : View E S). z.facts.has.further) is ∙ k.further_is;
        spares_are = subst (λ (z : View E S). HasSpare z.facts.spare_slots z.slots spares) (sym is)
            (record { are = k.spares_are.are; low = k.spares_are.low });
        homes_are = keeps-homes u w (goes-left u w c.heads u.facts.spare_slots [] c.left) homes k.homes_are;
        counted = ap (λ (z : View E S). z.facts.duties) is;
        retired = ap (λ (z : View E S). z.facts.to_retire) is ∙ k.retired;
        shut = ap (λ (z : View E S). z.facts.open_slot) is ∙ k.shut;
        owes_is = ap (λ (z : View E S). is_owing z.facts.doing) is ∙ k.owes_is;
        waits_are = ap (λ (z : View E S). length z.facts.waits) is ∙ k.waits_are;
        ticket_is = λ j e. k.ticket_is j (sym (ap (λ (z : View E S). z.facts.doing) is) ∙ e);
        slots_are = ap (λ (z : View E S). words_for z.slots) is ∙ k.slots_are;
        inside = inside-left u w c.heads u.facts.spare_slots [] c.left k.inside;
        few_cells = subst (λ n. n < 137438953472) (sym (ap (λ (z : View E S). z.cells) is)) k.few_cells;
      }

module _ {C S E : Type 0} {g : Ghosts C S E} where
  -- it is one of its queue still
  pub belongs-counted : (q : Queue C S E) (p next : Pass C S E g) (u : View E S) → IsOf q p → IsSame (pass_view p) u
      → IsLive g.object u → TellsAlone g.primitive u → Counted u (pass_view next)
      → next.seat.table_id ≡ p.seat.table_id → IsOf q next
  belongs-counted q p next u b same live alone c table =
      let is = c.left.is in record {
        table = table ∙ b.table;
        slots = b.slots;
        passes = ap (λ (z : View E S). z.passes) is ∙ (same.passes ∙ b.passes);
        limit = ap (λ (z : View E S). z.limit) is ∙ (same.limit ∙ b.limit);
        cells = ap (λ (z : View E S). z.cells) is ∙ (same.cells ∙ b.cells);
        mode = b.mode;
        ample = b.ample;
        looks = b.looks;
        live = live-left u (pass_view next) c.heads u.facts.spare_slots [] c.left g.object live;
        opening = ap (λ (z : View E S). z.opening) is ∙ (same.opening ∙ b.opening);
        alone = alone-left u (pass_view next) c.heads u.facts.spare_slots [] c.left g.primitive alone;
      }

-- what was seen by a step is seen after its cell was counted
module _ {E S : Type 0} (u w : View E S) (k : Counted u w) where
  pub same-counted : (v : View E S) → IsSame v u → IsSame v w
  same-counted v s = subst (IsSame v) (sym k.left.is) (record {
    number = s.number;
    weight = s.weight;
    own = s.own;
    crew = s.crew;
    alone = s.alone;
    made = s.made;
    drawn = s.drawn;
    limit = s.limit;
    cells = s.cells;
    slots = s.slots;
    passes = s.passes;
    opening = s.opening;
    segments = sees-then v.segments u.segments w.segments s.segments k.left.segments;
  })

  pub saw-counted : (object : Object E) (v : View E S) (f : Facts) (es : List E) → Saw object v f es u
      → Saw object v (counted_after true k.heads f) es w
  saw-counted object v f es s =
      let is = k.left.is in record {
        between = s.between;
        seen = ap (λ (z : View E S). z.seen) is ∙ s.seen;
        silent = s.silent;
        facts_are = ap (λ (z : View E S). z.facts) is ∙ ap (counted_after true k.heads) s.facts_are;
        same = same-counted v s.same;
        handed = subst (λ (z : View E S). IsPrefix v.handed z.handed) (sym is) s.handed;
        unlaid = subst (λ (z : View E S). LaysNone v.laid z.laid) (sym is) s.unlaid;
        sole = s.sole;
      }

  -- by a step that settles its cell, or leaves none to count
  pub saw-after : (settles : Bool) (object : Object E) (v : View E S) (f : Facts) (es : List E)
      → (settles ≡ false → f.duties ≡ []) → Saw object v f es u → Saw object v (counted_after settles k.heads f) es w
  saw-after true object v f es none s = saw-counted object v f es s
  saw-after false object v f es none s =
      subst (λ z. Saw object v f es z) (sym (k.none (ap (λ (f : Facts). f.duties) s.facts_are ∙ none refl))) s

  -- it finds one head at most for that
  pub one-head : (settles : Bool) (n : ℕ) → u.facts.duties ≡ duties_then settles n [] → length k.heads ≤ 1
  one-head true n is = let few = subst (λ d. length k.heads ≤ length d) is k.few in omega arith
  one-head false n is = let few = subst (λ d. length k.heads ≤ length d) is k.few in omega arith

  pub found-counted : {C : Type 0} (primitive : C → Primitive E S) (fact : Hidden → List ℕ → Type 0) (es : List E)
      → WasFound primitive fact es u → WasFound primitive fact es w
  found-counted primitive fact es f = record {
    before = f.before;
    seen = ap (λ (z : View E S). z.seen) k.left.is ∙ f.seen;
    was = subst (λ (z : View E S). WasShown primitive z.opening fact f.before) (sym k.left.is) f.was;
  }
