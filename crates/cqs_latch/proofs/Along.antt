-- The steps of a call, one after the other: what the pass has seen and found along them, and where in the history a
-- step found what it did.
use Rattle.std.proofs.Common.{◌≡◌, ℕ, List, [], ◌∷◌, ◌++◌, sym, refl, ap, ◌∙◌, subst, append_assoc}
use Rattle.std.proofs.lemmas.List.{append-nil, append_cancel_right}
use Rattle.cqs_latch_object.specs.declared.entries.LatchEntry.{LatchEntry}
use Rattle.cqs_latch_object.specs.LatchObject.{Latch}
use Rattle.cqs_latch_object.specs.LatchEntries.{object_after}
use Rattle.cqs_rule_laws.specs.declared.view.Facts.{Facts}
use Rattle.cqs_rule_laws.specs.declared.view.Opening.{Opening}
use Rattle.cqs_rule_laws.specs.declared.view.Sighting.{Sighting}
use Rattle.cqs_rule_laws.specs.declared.view.Sighting.TheVariants.{Word}
use Rattle.cqs_rule_laws.specs.declared.view.View.{View}
use Rattle.cqs_rule_laws.specs.Called.{Called}
use Rattle.cqs_rule_laws.specs.Events.{Event}
use Rattle.cqs_rule_laws.specs.Layout.{suspends_place, client_place}
use Rattle.cqs_rule_laws.specs.Lists.{IsPrefix}
use Rattle.cqs_rule_laws.specs.Saw.{Saw}
use Rattle.cqs_rule_laws.proofs.Calls.{called-by, called-then, called-and}
use Rattle.cqs_rule_laws.proofs.Causes.{Onward}
use Rattle.cqs_rule_laws.proofs.Lists.{prefix-then}
use Rattle.cqs_rule_laws.proofs.Prefixes.{prefix-same}
use Rattle.cqs_latch.specs.Latch.{is_simple, latch_object}
use Rattle.cqs_latch.specs.LatchTold.{at_word, OnWord, NextIs}
use Rattle.cqs_latch.specs.Causes.{WordWas, NextWas}

-- the plain latch of an opening after a history
abbrev object_of : Opening → List LatchEntry → Latch
object_of o history = object_after (is_simple o.mode) o.size history

module _ {T : Type 0} where
  -- From v to u the pass made steps of these entries, the last of which come last, and found these.
  pub record Along (v : View LatchEntry T) (es last : List LatchEntry) (u : View LatchEntry T) : Type 0 where
    pub called : Called latch_object v es last u
    pub found : List Sighting
    pub found_is : u.facts.found ≡ v.facts.found ++ found

  pub along-onward : (v u : View LatchEntry T) (es last : List LatchEntry) → Along v es last u → Onward v u
  along-onward v u es last a = record {
    seen = (a.called.more, a.called.seen);
    found = (a.found, a.found_is);
    opening = a.called.same.opening;
  }

  pub along-first : (v u : View LatchEntry T) (f : Facts) (es : List LatchEntry) (found : List Sighting)
      → Saw latch_object v f es u → f.found ≡ v.facts.found ++ found → Along v es es u
  along-first v u f es found saw is = record {
    called = called-by latch_object v u f es saw;
    found = found;
    found_is = ap (λ (g : Facts). g.found) saw.facts_are ∙ is;
  }

  pub along-then : (v u w : View LatchEntry T) (f : Facts) (es last fs : List LatchEntry) (found : List Sighting)
      → Along v es last u → Saw latch_object u f fs w → f.found ≡ u.facts.found ++ found → Along v (es ++ fs) fs w
  along-then v u w f es last fs found a saw is = record {
    called = called-then latch_object v u w f es last fs a.called saw;
    found = a.found ++ found;
    found_is = ap (λ (g : Facts). g.found) saw.facts_are ∙ is ∙ ap (λ l. l ++ found) a.found_is
        ∙ append_assoc v.facts.found a.found found;
  }

  pub along-and : (v u w : View LatchEntry T) (es last fs end : List LatchEntry) → Along v es last u → Along u fs end w
      → Along v (es ++ fs) end w
  along-and v u w es last fs end a b = record {
    called = called-and latch_object v u w es last fs end a.called b.called;
    found = a.found ++ b.found;
    found_is = b.found_is ∙ ap (λ l. l ++ b.found) a.found_is ∙ append_assoc v.facts.found a.found b.found;
  }

  -- a step on a word, by a pass that had come to u since the call began
  word-at : (i n : ℕ) (event : Event LatchEntry) (Reads : ℕ → ℕ → Latch → Type 0) (v u x : View LatchEntry T)
      (earlier : List Sighting) → IsPrefix v.seen u.seen → u.facts.found ≡ v.facts.found ++ earlier
      → (o : OnWord i event Reads u n x) → WordWas i Reads v n o.before (event.entries (at_word u n)) x
  word-at i n event Reads v u x earlier old found o =
      let es = event.entries (at_word u n) in
      let here : o.before ≡ u.seen ++ o.saw.between =
      append_cancel_right o.before (u.seen ++ o.saw.between) es (sym o.seen ∙ o.saw.seen) in
      record {
        since = subst (IsPrefix v.seen) (sym here)
            (prefix-then v.seen u.seen (u.seen ++ o.saw.between) old (o.saw.between, refl));
        seen = ([], o.seen ∙ sym (append-nil (o.before ++ es)));
        reads = o.reads;
        found = (
          earlier,
          [],
          ap (λ (f : Facts). f.found) o.saw.facts_are ∙ ap (λ l. l ++ Word (client_place i) n ∷ []) found
              ∙ append_assoc v.facts.found earlier (Word (client_place i) n ∷ []),
        );
      }

  -- the first step of a call, and a later one
  pub word-first : (i n : ℕ) (event : Event LatchEntry) (Reads : ℕ → ℕ → Latch → Type 0) (v x : View LatchEntry T)
      → (o : OnWord i event Reads v n x) → WordWas i Reads v n o.before (event.entries (at_word v n)) x
  word-first i n event Reads v x o =
      word-at i n event Reads v v x [] (prefix-same v.seen) (sym (append-nil v.facts.found)) o

  pub word-then : (i n : ℕ) (event : Event LatchEntry) (Reads : ℕ → ℕ → Latch → Type 0) (v u x : View LatchEntry T)
      (es last : List LatchEntry) → Along v es last u → (o : OnWord i event Reads u n x)
      → WordWas i Reads v n o.before (event.entries (at_word u n)) x
  word-then i n event Reads v u x es last a o =
      word-at i n event Reads v u x a.found (a.called.more, a.called.seen) a.found_is o

  -- what was found stays found as the call goes on
  pub word-later : (i n : ℕ) (Reads : ℕ → ℕ → Latch → Type 0) (v u w : View LatchEntry T)
      (before own es last : List LatchEntry) → WordWas i Reads v n before own u → Along u es last w
      → WordWas i Reads v n before own w
  word-later i n Reads v u w before own es last was a = record {
    since = was.since;
    seen = prefix-then (before ++ own) u.seen w.seen was.seen (a.called.more, a.called.seen);
    reads = subst (λ (o : Opening). Reads o.size n (object_of o before)) (sym a.called.same.opening) was.reads;
    found = (
      was.found.0,
      was.found.1 ++ a.found,
      a.found_is ∙ ap (λ l. l ++ a.found) was.found.2
          ∙ append_assoc v.facts.found (was.found.0 ++ Word (client_place i) n ∷ was.found.1) a.found
          ∙ ap (λ l. v.facts.found ++ l) (append_assoc was.found.0 (Word (client_place i) n ∷ was.found.1) a.found),
    );
  }

  -- the suspend counter
  pub next-then : (n : ℕ) (v u x : View LatchEntry T) (es last : List LatchEntry) → Along v es last u → NextIs u n x
      → NextWas v n x.seen x
  next-then n v u x es last a next = record {
    since = prefix-then v.seen u.seen x.seen (a.called.more, a.called.seen)
        (next.saw.between ++ [], next.saw.seen ∙ append_assoc u.seen next.saw.between []);
    seen = prefix-same x.seen;
    next = next.next;
    found = (
      a.found,
      [],
      ap (λ (f : Facts). f.found) next.saw.facts_are ∙ ap (λ l. l ++ Word suspends_place n ∷ []) a.found_is
          ∙ append_assoc v.facts.found a.found (Word suspends_place n ∷ []),
    );
  }

  pub next-later : (n : ℕ) (v u w : View LatchEntry T) (before es last : List LatchEntry) → NextWas v n before u
      → Along u es last w → NextWas v n before w
  next-later n v u w before es last was a = record {
    since = was.since;
    seen = prefix-then before u.seen w.seen was.seen (a.called.more, a.called.seen);
    next = ap (λ (o : Opening). (object_of o before).waiters.next) a.called.same.opening ∙ was.next;
    found = (
      was.found.0,
      was.found.1 ++ a.found,
      a.found_is ∙ ap (λ l. l ++ a.found) was.found.2
          ∙ append_assoc v.facts.found (was.found.0 ++ Word suspends_place n ∷ was.found.1) a.found
          ∙ ap (λ l. v.facts.found ++ l) (append_assoc was.found.0 (Word suspends_place n ∷ was.found.1) a.found),
    );
  }
