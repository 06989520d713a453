-- The resumptions of a pass that is alone reach the first of the line, one after the other.
use Rattle.std.proofs.Common.{◌≡◌, ℕ, true, List, [], ◌∷◌, ◌++◌, length, Some, slice_get, take, sym, refl, ap, ◌∙◌, subst, append_assoc, take_at}
use Rattle.std.specs.List.{fold}
use Rattle.std.proofs.lemmas.List.Sums.{fold-append}
use Rattle.cqs_core.specs.declared.doings.Doing.TheVariants as doing
use Rattle.cqs_core.specs.QueueWaiters.{Waits, waiters, is_reached}
use Rattle.cqs_core.proofs.Places.{get-append_left, get-push_at}
use Rattle.cqs_core.proofs.Rising.{in-take}
use Rattle.cqs_core.proofs.IdleLines.{served-first}
use Rattle.cqs_barrier_object.specs.declared.entries.BarrierEntry.{BarrierEntry}
use Rattle.cqs_barrier_object.specs.declared.entries.BarrierEntry.TheVariants as entry
use Rattle.cqs_barrier_object.specs.BarrierEntries.{object_after, after_entry, after_delivery, IsLegal, IsAllowed}
use Rattle.cqs_barrier_object.specs.BarrierObject.{Barrier, opening}
use Rattle.cqs_barrier_object.specs.SoleCaller.{numbers_of}
use Rattle.cqs_rule_laws.specs.declared.view.Opening.{Opening}
use Rattle.cqs_rule_laws.specs.declared.view.View.{View}
use Rattle.cqs_rule_laws.specs.Alone.{IsAlone}
use Rattle.cqs_rule_laws.specs.Called.{Called}
use Rattle.cqs_barrier.specs.Barrier.{barrier_object}
use Rattle.cqs_barrier.specs.Calls.{plain_after, waiting_in}
use Rattle.cqs_barrier.specs.Causes.{primitive_of}
use Rattle.cqs_barrier.proofs.AloneLine.{sees, line-rising, all-idle}

-- an entry of a legal history may come after those before it
pub allowed-at : (size : ℕ) (h mid rest all : List BarrierEntry) (e : BarrierEntry) → all ≡ h ++ (mid ++ e ∷ rest)
    → IsLegal size all
    → IsAllowed (fold after_entry (object_after size h) mid) e
allowed-at size h mid rest all e is legal =
    let front = h ++ mid in
    let whole : all ≡ front ++ (e ∷ rest) = is ∙ sym (append_assoc h mid (e ∷ rest)) in
    let there : slice_get (front ++ (e ∷ rest)) (length front) ≡ Some e =
    ap (λ l. slice_get l (length front)) (sym (append_assoc front (e ∷ []) rest))
    ∙ get-append_left (front ++ e ∷ []) rest (length front) e (get-push_at front e (length front) refl) in
    let here : IsAllowed (fold after_entry (opening size) (take (length front) all)) e =
    legal.at (length front) e (ap (λ l. slice_get l (length front)) whole ∙ there) in
    let before : take (length front) all ≡ front =
    ap (take (length front)) whole ∙ take_at front (e ∷ rest) (length front) refl in
    subst (λ (o : Barrier). IsAllowed o e)
    (ap (fold after_entry (opening size)) before ∙ fold-append after_entry (opening size) h mid) here

module _ {T : Type 0} where
  -- what a pass knows of itself where it is alone
  abbrev pub KnowsAlone : View BarrierEntry T → Type 0
  KnowsAlone v = v.alone ≡ true → IsAlone primitive_of v

  -- all that a pass has seen after a call that it made alone
  pub record Legal (v : View BarrierEntry T) (entries : List BarrierEntry) (w : View BarrierEntry T) : Type 0 where
    pub seen : w.seen ≡ v.seen ++ entries
    pub legal : IsLegal v.opening.size w.seen
    pub object : plain_after w ≡ fold after_entry (plain_after v) entries

  pub legal-alone : (v w : View BarrierEntry T) (es : List BarrierEntry) → Called barrier_object v es [] w
      → IsLegal w.opening.size w.seen → v.alone ≡ true → Legal v es w
  legal-alone v w es c legal alone =
      let seen : w.seen ≡ v.seen ++ es = c.seen ∙ ap (λ l. v.seen ++ l) (c.sole alone) in
      record {
        seen = seen;
        legal = subst (λ (o : Opening). IsLegal o.size w.seen) c.same.opening legal;
        object = ap (λ (o : Opening). object_after o.size w.seen) c.same.opening
            ∙ (ap (object_after v.opening.size) seen ∙ fold-append after_entry (opening v.opening.size) v.seen es);
      }

  -- a call without entries leaves the line as it was
  pub none-served : (v w : View BarrierEntry T) → Called barrier_object v [] [] w → v.alone ≡ true
      → waiting_in v ≡ waiting_in w
  none-served v w c alone =
      let seen : w.seen ≡ v.seen ++ [] = c.seen ∙ ap (λ l. v.seen ++ l) (c.sole alone) in
      let same : plain_after w ≡ plain_after v =
      ap (λ (o : Opening). object_after o.size w.seen) c.same.opening
      ∙ (ap (object_after v.opening.size) seen ∙ fold-append after_entry (opening v.opening.size) v.seen []) in
      sym (ap (λ (o : Barrier). numbers_of o.waiters.line) same)

  -- one that is served, so that the pass is idle then, was the first of the line
  pub one-served : (v w : View BarrierEntry T) (k : ℕ) → Called barrier_object v (entry.Deliver k ∷ []) [] w
      → IsLegal w.opening.size w.seen → KnowsAlone v → KnowsAlone w → w.facts.doing ≡ doing.Idle → v.alone ≡ true
      → waiting_in v ≡ k ∷ waiting_in w
  one-served v w k c legal knows knows' idle alone =
      let a = knows alone in
      let b = knows' (c.same.alone ∙ alone) in
      let o = plain_after v in
      let l = legal-alone v w (entry.Deliver k ∷ []) c legal alone in
      let now : plain_after w ≡ after_delivery o k = l.object in
      let may : IsAllowed o (entry.Deliver k) =
      allowed-at v.opening.size v.seen [] [] w.seen (entry.Deliver k) l.seen l.legal in
      let who = may.1.0 in
      let waits : Waits k who o.waiters.line =
      (in-take (record { wait = k; pass = who }) o.way o.waiters.line may.1.1).1 in
      let q = b.hidden.queue in
      let shows : is_reached o.waiters k ≡ waiters q = ap (λ (z : Barrier). z.waiters) (sym now) ∙ sees w b in
      served-first q o.waiters k who b.shown.barrier.sound (all-idle w b idle) 0 _ (line-rising v a) waits shows
      ∙ ap (λ (z : Barrier). k ∷ numbers_of z.waiters.line) (sym now)
