-- What the pass of a latch that is alone is after a call, and what its calls find.
use Rattle.std.proofs.Common.{◌≡◌, ℕ, ◌+◌, ◌<◌, ◌≤◌, Bool, true, false, List, [], ◌∷◌, ◌++◌, length, map, slice_get, take, Some, refl, ap, sym, ◌∙◌, subst, append_assoc, take_at, arith}
use Rattle.std.specs.List.{fold}
use Rattle.std.proofs.lemmas.List.Sums.{fold-append}
use Rattle.cqs_core.specs.QueueLine.{Waiting}
use Rattle.cqs_core.proofs.Places.{get-append_left, get-push_at}
use Rattle.cqs_latch_object.specs.declared.entries.LatchEntry.{LatchEntry}
use Rattle.cqs_latch_object.specs.declared.entries.LatchEntry.TheVariants as entry
use Rattle.cqs_latch_object.specs.LatchEntries.{IsAllowed, IsLegal, after_entry, object_after}
use Rattle.cqs_latch_object.specs.LatchObject.{Latch, opening}
use Rattle.cqs_latch.specs.Alone.{delivers, plain_after}
use Rattle.cqs_latch.specs.Calls.{CallRuleEnding, Rests}
use Rattle.cqs_latch.specs.Latch.{is_simple}
use Rattle.cqs_rule_laws.specs.declared.config.Place.{Place}
use Rattle.cqs_rule_laws.specs.declared.view.Opening.{Opening}
use Rattle.cqs_rule_laws.specs.declared.view.View.{View}
use Rattle.cqs_rule_laws.specs.Lists.{Has}
use Rattle.cqs_rule_laws.specs.Views.{IsSame}
use Rattle.cqs_rule_laws.proofs.Places.{goes-same, known-still}
use Rattle.cqs_floor_alone_kinds.specs.SoleLatch.{IsResting, is_news, news}
use Rattle.cqs_floor_alone_kinds.specs.Waits.{WaitsAt}
use Rattle.cqs_floor_alone_kinds.proofs.FreshHistories.{fresh-legal, fresh-object}

-- what an entry that is no news changes
no-news : (o : Latch) (e : LatchEntry) → is_news e ≡ false → after_entry o e ≡ o
no-news o (entry.LookPending c k) old = refl
no-news o (entry.DownLeft c n) old = absurd (cc)
no-news o (entry.DownLast c) old = absurd (cc)
no-news o (entry.DownAlready c) old = absurd (cc)
no-news o (entry.Open c) old = absurd (cc)
no-news o (entry.Passed c) old = absurd (cc)
no-news o (entry.AwaitDoor c) old = absurd (cc)
no-news o (entry.Enter c k) old = absurd (cc)
no-news o (entry.Deliver k) old = absurd (cc)
no-news o (entry.Leave c k) old = absurd (cc)
no-news o (entry.Miss k) old = absurd (cc)
no-news o (entry.Late c k) old = absurd (cc)
no-news o (entry.LookGranted c k) old = absurd (cc)

pub news-object : (size : ℕ) (es : List LatchEntry) → object_after false size (news es) ≡ object_after false size es
news-object size es = fresh-object IsAllowed after_entry is_news no-news (opening false size) es

pub news-legal : (size : ℕ) (es : List LatchEntry) → IsLegal false size es → IsLegal false size (news es)
news-legal size es legal = fresh-legal IsAllowed after_entry is_news no-news (opening false size) es legal

-- deliveries are news
pub news-delivers : (ks : List ℕ) → news (delivers ks) ≡ delivers ks
news-delivers [] = refl
news-delivers (k ∷ ks) = ap (λ es. entry.Deliver k ∷ es) (news-delivers ks)

pub delivers-line : (line : List Waiting)
    → delivers (map (λ (w : Waiting). w.wait) line) ≡ map (λ (w : Waiting). entry.Deliver w.wait) line
delivers-line [] = refl
delivers-line (w ∷ line) = ap (λ es. entry.Deliver w.wait ∷ es) (delivers-line line)

-- what deliveries leave as it was
pub delivered-count : (ks : List ℕ) (o : Latch) → (fold after_entry o (delivers ks)).count ≡ o.count
delivered-count [] o = refl
delivered-count (k ∷ ks) o = delivered-count ks _

pub delivered-open : (ks : List ℕ) (o : Latch) → (fold after_entry o (delivers ks)).opened ≡ o.opened
delivered-open [] o = refl
delivered-open (k ∷ ks) o = delivered-open ks _

pub delivered-next : (ks : List ℕ) (o : Latch) → (fold after_entry o (delivers ks)).waiters.next ≡ o.waiters.next
delivered-next [] o = refl
delivered-next (k ∷ ks) o = delivered-next ks _

-- an entry of a legal history may come after those before it
pub allowed-next : (simple : Bool) (size : ℕ) (h rest all : List LatchEntry) (e : LatchEntry) → all ≡ h ++ e ∷ rest
    → IsLegal simple size all → IsAllowed (object_after simple size h) e
allowed-next simple size h rest all e is legal =
    let there : slice_get (h ++ e ∷ rest) (length h) ≡ Some e =
    ap (λ l. slice_get l (length h)) (sym (append_assoc h (e ∷ []) rest))
    ∙ get-append_left (h ++ e ∷ []) rest (length h) e (get-push_at h e (length h) refl) in
    let here : IsAllowed (fold after_entry (opening simple size) (take (length h) all)) e =
    legal.at (length h) e (ap (λ l. slice_get l (length h)) is ∙ there) in
    let before : take (length h) all ≡ h = ap (take (length h)) is ∙ take_at h (e ∷ rest) (length h) refl in
    subst (λ l. IsAllowed (fold after_entry (opening simple size) l) e) before here

module _ {T : Type 0} where
  -- what a pass that is alone has seen after a call
  pub went : (v w : View LatchEntry T) (own further last : List LatchEntry) → CallRuleEnding v own further last w
      → v.alone ≡ true → w.seen ≡ v.seen ++ (own ++ further)
  went v w own further last rule alone =
      rule.called.seen ∙ ap (λ es. v.seen ++ es) (rule.called.sole alone)

  -- A pass went from v to w: it has seen these entries more, and has these waits.
  pub record Comes (v w : View LatchEntry T) (entries : List LatchEntry) (waits : List ℕ) : Type 0 where
    pub same : IsSame v w
    pub seen : w.seen ≡ v.seen ++ entries
    pub rests : Rests waits w

  module _ (v w : View LatchEntry T) (entries : List LatchEntry) (same : IsSame v w)
      (seen : w.seen ≡ v.seen ++ entries) where
    pub plain-next : plain_after w ≡ fold after_entry (plain_after v) entries
    plain-next =
        ap (λ (o : Opening). object_after (is_simple o.mode) o.size w.seen) same.opening
        ∙ ap (object_after (is_simple v.opening.mode) v.opening.size) seen
        ∙ fold-append after_entry (opening (is_simple v.opening.mode) v.opening.size) v.seen entries

    -- a wait that is still among the pass's waits is its own on
    pub has-next : (wait : Place) → WaitsAt v wait → Has wait.index w.facts.waits → WaitsAt w wait
    has-next wait has there = record {
      open_yet = there;
      place = known-still v w wait (goes-same v w same) has.place;
    }

  -- the pass rests after it
  pub rests-next : (v w : View LatchEntry T) (entries : List LatchEntry) (waits : List ℕ) (c : Comes v w entries waits)
      (size room room' : ℕ) → IsResting v size room
      → ((fold after_entry (plain_after v) entries).count ≡ 0
      → (fold after_entry (plain_after v) entries).opened ≡ true)
      → ((fold after_entry (plain_after v) entries).opened ≡ true
      → (fold after_entry (plain_after v) entries).waiters.line ≡ [])
      → (fold after_entry (plain_after v) entries).waiters.next + room' ≤ (plain_after v).waiters.next + room
      → ((k : ℕ) → Has k waits → k < (fold after_entry (plain_after v) entries).waiters.next)
      → IsResting w size room'
  rests-next v w entries waits c size room room' rests whole none few drawn =
      let is = plain-next v w entries c.same c.seen in
      let next = ap (λ (o : Latch). o.waiters.next) is in
      record {
        size_is = ap (λ (o : Opening). o.size) c.same.opening ∙ rests.size_is;
        smart = ap (λ (o : Opening). o.mode) c.same.opening ∙ rests.smart;
        number = c.same.number ∙ rests.number;
        alone = c.same.alone ∙ rests.alone;
        ready = c.rests.ready;
        whole = subst (λ (o : Latch). o.count ≡ 0 → o.opened ≡ true) (sym is) whole;
        none = subst (λ (o : Latch). o.opened ≡ true → o.waiters.line ≡ []) (sym is) none;
        below = omega (arith, next, rests.below, few, c.same.limit);
        drawn = λ k has. subst (λ (o : Latch). k < o.waiters.next) (sym is)
            (drawn k (subst (Has k) c.rests.waits_are has));
      }
