-- A semaphore that workers share is a resource as a floor needs it: each call by what it left of the pass.
use Rattle.std.proofs.Common.{◌≡◌, ℕ, ◌+◌, ◌-◌, ◌≤◌, false, List, [], ◌∷◌, drop, length, sum_by, Some, None, Ok, refl, ap, sym, ◌∙◌, subst, arith}
use Rattle.std.specs.Arc.{arc_value}
use Rattle.std.proofs.lemmas.Bool.{false≢true}
use Rattle.std.proofs.lemmas.List.{length_push}
use Rattle.cqs_core.specs.declared.entries.Entry.{Entry}
use Rattle.cqs_core.specs.declared.entries.Entry.TheVariants as entry
use Rattle.cqs_core.specs.Numbered.{IsIn}
use Rattle.cqs_core.specs.Parts.{Has, part}
use Rattle.cqs_core.specs.SemaphoreNames.{entry_names}
use Rattle.cqs_plan.specs.declared.floors.answers.FloorTake.TheVariants as take
use Rattle.cqs_plan.specs.declared.floors.answers.FloorLook.TheVariants as look
use Rattle.cqs_plan.specs.declared.floors.answers.FloorLeave.TheVariants as leave
use Rattle.cqs_plan.specs.Floor.{size_of}
use Rattle.cqs_plan.specs.FloorHistory.{of_permits}
use Rattle.cqs_rule_laws.specs.declared.config.Place.{Place}
use Rattle.cqs_rule.specs.declared.queue.tokens.Under as token
use Rattle.cqs_rule.specs.declared.queue.tokens.Wait.{Wait}
use Rattle.cqs_rule_laws.specs.declared.view.Facts.{Facts}
use Rattle.cqs_rule_laws.specs.declared.view.Opening.{Opening}
use Rattle.cqs_rule_laws.specs.declared.view.View.{View}
use Rattle.cqs_rule_laws.specs.Lists.{IsDistinct, without}
use Rattle.cqs_rule.specs.Passes.{pass_view}
use Rattle.cqs_semaphore_client.specs.Semaphore.{semaphore_object}
use Rattle.cqs_rule.specs.Waits.{place_of}
use Rattle.cqs_rule_laws.proofs.Lists.{has_left, without_has}
use Rattle.cqs_semaphore_client.specs.PlainHistories.{IsPlainHistory}
use Rattle.cqs_semaphore.proofs.PlainPasses.{plain-opening, plain-seen}
use Rattle.cqs_semaphore.specs.declared.answers.Acquired.TheVariants.{Now, Later}
use Rattle.cqs_semaphore.specs.declared.answers.CancelAnswer.TheVariants.{Cancelled, TooLate}
use Rattle.cqs_semaphore.specs.declared.answers.Permit.{Permit}
use Rattle.cqs_semaphore.specs.declared.answers.Polled.TheVariants.{Granted, Pending}
use Rattle.cqs_semaphore.specs.declared.answers.Released.TheVariants.{Left, Void}
use Rattle.cqs_semaphore.specs.Answers.{Acquires, Ends, HandsBack, IsPolled, IsWorn, Takes as TakesSo, WasUnwanted}
use Rattle.cqs_rule_laws.specs.CallRule.{IsReady}
use Rattle.cqs_semaphore.specs.Calls.{CallRule, IsMine, Rests}
use Rattle.cqs_semaphore.specs.Entries.{acquired_entries, acquired_further, came_by, passed_further, polled_entries, took_entries}
use Rattle.cqs_semaphore.specs.Permits.{number_of}
use Rattle.cqs_semaphore.specs.Steps.{HasCancelled}
use Rattle.cqs_floor_common.specs.HeldElements.{held_by}
use Rattle.cqs_floor_shared.specs.declared.shared.SharedGive.{SharedGive}
use Rattle.cqs_floor_shared.specs.declared.shared.SharedGive.TheVariants as shared
use Rattle.cqs_floor_shared.specs.AnswerEntries.{permit_given}
use Rattle.cqs_floor_shared.specs.Calls.{TellsGive}
use Rattle.cqs_floor_shared.specs.Entries.{at_permits}
use Rattle.cqs_floor_shared_kinds.specs.declared.kinds.permits.SharedPermits.{SharedPermits}
use Rattle.cqs_floor_shared_kinds.specs.declared.resource.Came.TheVariants as came
use Rattle.cqs_floor_shared_kinds.specs.PermitAccounts.{IsAccounted, doors, enters, gains, losses}
use Rattle.cqs_floor_shared_kinds.specs.PermitRuns.{IsOfPermits, TellsSent}
use Rattle.cqs_floor_shared_kinds.specs.Runs.{Stays, Went}
use Rattle.cqs_floor_shared_kinds.specs.Shares.{Funds, KeepsAll, KeepsOthers, Sees, with_came, with_less, with_more, with_wait}
use Rattle.cqs_floor_shared_kinds.specs.ShareCalls.{Gives, Leaves, Looks, Takes, oldest}
use Rattle.cqs_floor_shared_kinds.specs.PermitShares.{HoldPermits, IsFunded, IsResting, share_permits, total}
use Rattle.cqs_floor_shared_kinds.proofs.Elements.{no-element}
use Rattle.cqs_floor_shared_kinds.proofs.Families.{name-same}
use Rattle.cqs_floor_shared_kinds.proofs.PermitAccounts.{account-next}
use Rattle.cqs_floor_shared_kinds.proofs.Runs.{last-in, none-more, not-before, waits-number, waits-next, waits-token, went-call, went-then}
use Rattle.cqs_floor_shared_kinds.proofs.PermitAnswers.{brought-is, come-is, drawn-is, drawn-same, give-counts, give-is, history-of, leave-is, look-is, may-come, oldest-is, parties-is, sent-given, sent-tells, turned-is}
use Rattle.cqs_floor_shared_kinds.proofs.HeldPermits.{less-total, more-total, permits-at, permits-less, permits-more}
use Rattle.cqs_floor_shared_kinds.proofs.PermitLeaves.{left-done, left-owing}
use Rattle.cqs_floor_shared_kinds.proofs.PermitsServed.{found-gone, left-unserved, void-unserved}

module _ (x y : SharedPermits) (same_one : y.semaphore ≡ x.semaphore)
    (mine : IsMine (arc_value x.semaphore) y.pass) where
  abbrev v : View Entry (Unit {0})
  v = pass_view x.pass

  abbrev w : View Entry (Unit {0})
  w = pass_view y.pass

  -- what the pass has seen more
  pub permits-see : (a : Funds) (entries : List Entry) → IsFunded x a → Went semaphore_object v entries w
      → Sees share_permits a.kind x (at_permits entries) y
  permits-see a entries funded went = record {
    more = at_permits went.more;
    words = tt;
    seen = ap of_permits went.seen;
    mine = ap at_permits went.mine;
    others = λ n has. ap at_permits (went.others n has);
    unnamed = λ n many.
        ap at_permits (none-more entry_names n v.seen went.more
        (ap (part entry_names n) (sym went.seen)
        ∙ mine.live.unnamed n (subst (λ p. p ≤ n) (sym went.same.passes) many)));
    legal = history-of a.kind w.seen funded.sort
        (subst (λ n. IsPlainHistory n w.seen) (ap (λ (o : Opening). o.size) went.same.opening ∙ funded.rests.size_is)
        (plain-seen (arc_value x.semaphore) mine (λ s. refl) went.legal));
    same = record {
      number = went.same.number;
      met = ap (λ (own : List ℕ). drop 1 own) went.same.own;
      passes = went.same.passes;
      limit = went.same.limit;
      family = ap (λ name. name ∷ []) (name-same x.pass y.pass
          (mine.table ∙ sym funded.mine.table)
          went.same.passes went.same.limit went.same.cells went.same.opening);
    };
  }

  -- what the jobs have then
  pub permits-have : (a b : Funds) (entries : List Entry) (held : ℕ) (waits : List ℕ) → IsFunded x a
      → Went semaphore_object v entries w → Rests v held waits w → b.kind ≡ a.kind → HoldPermits b.held
      → held ≡ total b.held + b.came → length waits ≡ b.waiting
      → sum_by gains entries + (total a.held + a.came + a.waiting)
      ≡ sum_by losses entries + (total b.held + b.came + b.waiting)
      → sum_by enters entries ≡ sum_by doors entries → IsFunded y b
  permits-have a b entries held waits funded went rests same_kind permits held_is waits_are balance entered =
      let r = funded.rests in
      let before : IsAccounted (v.number ∷ drop 1 v.own) v.seen (total a.held + a.came + a.waiting)
      = subst (λ own. IsAccounted own v.seen (total a.held + a.came + a.waiting)) r.numbers r.account in
      let after = account-next v.number (drop 1 v.own) v.seen went.more entries
      (total a.held + a.came + a.waiting) (total b.held + b.came + b.waiting) went.mine went.others balance entered
      before in
      record {
        sort = subst IsOfPermits (sym same_kind) funded.sort;
        mine = subst (λ s. IsMine (arc_value s) y.pass) (sym same_one) mine;
        permits = permits;
        rests = record {
          size_is = ap (λ (o : Opening). o.size) went.same.opening ∙ r.size_is
              ∙ ap (λ k. size_of (Some k)) (sym same_kind);
          ready = rests.ready;
          numbers = went.same.own ∙ r.numbers
              ∙ ap (λ n. n ∷ drop 1 v.own) (sym went.same.number)
              ∙ ap (λ (own : List ℕ). w.number ∷ drop 1 own) (sym went.same.own);
          distinct = subst IsDistinct (sym went.same.own) r.distinct;
          held_is = rests.held_is ∙ held_is;
          waits_are = ap (λ (l : List ℕ). length l) rests.waits_are ∙ waits_are;
          account = subst (λ own. IsAccounted own w.seen (total b.held + b.came + b.waiting))
              (sym r.numbers ∙ sym went.same.own)
              (subst (λ h. IsAccounted (v.number ∷ drop 1 v.own) h (total b.held + b.came + b.waiting))
              (sym went.seen) after);
        };
      }

  -- the waits that the pass has on
  pub keeps-all : Stays v w → (held : ℕ) (waits : List ℕ) → Rests v held waits w
      → ((k : ℕ) → Has k v.facts.waits → Has k waits)
      → KeepsAll share_permits x y
  keeps-all same held waits rests on round wait has = (
    has.0,
    waits-next v w wait same.goes has.1 (subst (Has wait.index) (sym rests.waits_are)
        (on wait.index has.1.open_yet)),
  )

  keeps-others : Stays v w → (k held : ℕ) → Rests v held (without k v.facts.waits) w → KeepsOthers share_permits x 0 k y
  keeps-others same k held rests round wait other has = (
    has.0,
    waits-next v w wait same.goes has.1 (subst (Has wait.index) (sym rests.waits_are)
        (without_has wait.index k v.facts.waits (other has.0) has.1.open_yet)),
  )

  -- a call of the semaphore
  called : (own further : List Entry) (size held waiting : ℕ) → IsResting v size held waiting
      → CallRule v own further w → Went semaphore_object v own w
  called own further size held waiting r rule =
      went-call semaphore_object v w own further r.numbers r.distinct rule.called rule.legal rule.mine rule.only
      rule.nobody

  -- A take.
  pub takes-now : (job : ℕ) (permit : Permit) → number_of permit ≡ None
      → CallRule v (acquired_entries v.number (Ok (Now permit))) (acquired_further (Ok (Now permit))) w
      → Acquires v (Now permit) w → Takes share_permits job x (came.Now 0) y
  takes-now job permit none rule got a funded holdable there =
      let rule' : CallRule v (entry.TakeNow v.number ∷ []) [] w
      = subst (λ n. CallRule v (took_entries v.number n) (came_by n) w) none rule in
      let free : TakesSo v None w = subst (λ n. TakesSo v n w) none got in
      let r = funded.rests in
      let went = called (entry.TakeNow v.number ∷ []) [] _ _ _ r rule' in
      let more = more-total a job 0 there in
      record {
        drew = None;
        sees = subst (λ es. Sees share_permits a.kind x es y)
            (sym (come-is a.kind 0 v.number (take.Now 0) None funded.sort))
            (permits-see a _ funded went);
        funded = permits-have a (with_more a job 0) _ _ _ funded went free.rests refl
            (permits-more a job funded.permits) (omega (arith, r.held_is, more)) r.waits_are (omega (arith, more)) refl;
        parties_are = refl;
        keeps = keeps-all went.same _ _ free.rests (λ k has. has);
        delivered = λ k with_it is. absurd (false≢true with_it);
        may = tt;
        element = no-element a.kind;
        drawn = drawn-is a.kind (Some (take.Now 0)) None funded.sort;
        had = λ k e none. absurd (cc);
        worn = λ none. absurd (cc);
      }

  pub takes-under : (job k : ℕ) (permit : Permit) → number_of permit ≡ Some k
      → CallRule v (acquired_entries v.number (Ok (Now permit))) (acquired_further (Ok (Now permit))) w
      → Acquires v (Now permit) w → Takes share_permits job x (came.Under k) y
  takes-under job k permit some rule got a funded holdable there =
      let entries : List Entry = entry.TakeDoor v.number ∷ entry.Enter v.number k ∷ [] in
      let rule' : CallRule v entries (entry.Deliver k ∷ []) w
      = subst (λ n. CallRule v (took_entries v.number n) (came_by n) w) some rule in
      let taken : TakesSo v (Some k) w = subst (λ n. TakesSo v n w) some got in
      let r = funded.rests in
      let went = called entries (entry.Deliver k ∷ []) _ _ _ r rule' in
      record {
        drew = None;
        sees = subst (λ es. Sees share_permits a.kind x es y)
            (sym (come-is a.kind 0 v.number (take.Waits k) None funded.sort))
            (permits-see a _ funded went);
        funded = permits-have a (with_came a) _ _ _ funded went taken.2 refl funded.permits
            (omega (arith, r.held_is)) r.waits_are (omega arith) refl;
        parties_are = refl;
        keeps = keeps-all went.same _ _ taken.2 (λ j has. has);
        delivered = λ j with_it is. (
          0,
          subst (λ n. IsIn (entry.Deliver n) w.seen) (waits-number k j is)
              (last-in w.seen rule'.called.before (entry.Deliver k) rule'.called.ends),
        );
        may = may-come a.kind funded.sort;
        element = tt;
        drawn = drawn-is a.kind (Some (take.Waits k)) None funded.sort;
        had = λ j e none. absurd (cc);
        worn = λ none. absurd (cc);
      }

  pub takes-wait : (job : ℕ) (wait : Wait) (place : Place) → place ≡ place_of wait
      → CallRule v (acquired_entries v.number (Ok (Later wait))) (acquired_further (Ok (Later wait))) w
      → Acquires v (Later wait) w → Takes share_permits job x (came.Waits place) y
  takes-wait job wait place is rule got =
      subst (λ at. Takes share_permits job x (came.Waits at) y) (sym is) (λ a funded holdable there.
      let k = (place_of wait).index in
      let r = funded.rests in
      let went = called (entry.TakeDoor v.number ∷ entry.Enter v.number k ∷ []) [] _ _ _ r rule in (
        record {
          drew = None;
          sees = subst (λ es. Sees share_permits a.kind x es y)
              (sym (come-is a.kind 0 v.number (take.Waits k) None funded.sort))
              (permits-see a _ funded went);
          funded = permits-have a (with_wait a) _ _ _ funded went got.3 refl funded.permits r.held_is
              (length_push v.facts.waits k ∙ ap (λ n. n + 1) r.waits_are) (omega arith) refl;
          parties_are = refl;
          keeps = keeps-all went.same _ _ got.3 (λ j has. has_left j v.facts.waits (k ∷ []) has);
          delivered = λ j with_it is. absurd (false≢true with_it);
          may = tt;
          element = tt;
          drawn = drawn-is a.kind (Some (take.Waits k)) None funded.sort;
          had = λ j e none. absurd (cc);
          worn = λ none. absurd (cc);
        },
        record {
          has = (refl, waits-token w wait got.2);
          fresh = λ u has same. not-before k v.facts.waits
              (subst (λ ws. length (without k ws) + 1 ≡ length ws) got.3.waits_are
              (y.pass.inside.once k got.2.open_yet))
              (subst (λ n. Has n v.facts.waits) same has.1.open_yet);
        },
      ))

  pub takes-none : (job : ℕ) → CallRule v [] [] w → IsWorn v w → IsReady w.facts
      → Takes share_permits job x came.Worn y
  takes-none job rule worn ready a funded holdable there =
      let r = funded.rests in
      let went = called [] [] _ _ _ r rule in
      let rests : Rests v v.facts.has.held v.facts.waits w
      = record {
        ready = ready;
        held_is = ap (λ (f : Facts). f.has.held) worn.facts_are;
        waits_are = ap (λ (f : Facts). f.waits) worn.facts_are;
      } in
      record {
        drew = None;
        sees = subst (λ es. Sees share_permits a.kind x es y) (sym (turned-is a.kind 0 v.number funded.sort))
            (permits-see a _ funded went);
        funded = permits-have a a _ _ _ funded went rests refl funded.permits r.held_is r.waits_are refl refl;
        parties_are = refl;
        keeps = keeps-all went.same _ _ rests (λ k has. has);
        delivered = λ k with_it is. absurd (false≢true with_it);
        may = tt;
        element = tt;
        drawn = drawn-is a.kind None None funded.sort;
        had = λ k e none. absurd (cc);
        worn = λ none. subst (λ n. v.limit ≤ n) (sym worn.counted.drawn ∙ drawn-same w.seen) worn.worn;
      }

  -- A give.
  pub gives-back : (job : ℕ) (answer : SharedGive)
      → ((size held waiting : ℕ) → IsResting v size held waiting
      → Went semaphore_object v (permit_given v.number answer) w)
      → Rests v (v.facts.has.held - 1) v.facts.waits w → TellsGive 0 answer (of_permits w.seen)
      → Gives share_permits job x answer y
  gives-back job answer goes rests tells a funded holdable some =
      let r = funded.rests in
      let went = goes _ _ _ r in
      let less = less-total a job some in
      let counts = give-counts v.number answer in
      let zero : 0 ≡ oldest a job = sym (oldest-is (held_by a.held job) (permits-at a.held job funded.permits)) in
      record {
        sees = subst (λ es. Sees share_permits a.kind x es y)
            (sym (give-is a.kind v.number (oldest a job) answer funded.sort)) (permits-see a _ funded went);
        tells = subst (λ e. TellsGive e answer (of_permits w.seen)) zero tells;
        funded = permits-have a (with_less a job) _ _ _ funded went rests refl (permits-less a job funded.permits)
            (omega (arith, r.held_is, less)) r.waits_are (omega (arith, less, counts.0, counts.1)) counts.2;
        parties_are = refl;
        keeps = keeps-all went.same _ _ rests (λ k has. has);
      }

  pub gives-freed : (job : ℕ) → CallRule v (entry.GiveFreed v.number ∷ []) [] w → WasUnwanted v w
      → Gives share_permits job x (shared.Free 0) y
  gives-freed job rule was =
      gives-back job (shared.Free 0) (λ size held waiting r. called _ [] size held waiting r rule) was.rests (refl, tt)

  pub gives-sent : (job k : ℕ) → CallRule v (entry.GiveSent v.number ∷ []) (entry.Deliver k ∷ []) w
      → Rests v (v.facts.has.held - 1) v.facts.waits w → Gives share_permits job x (shared.Sent 0 k) y
  gives-sent job k rule rests =
      gives-back job (shared.Sent 0 k) (λ size held waiting r. called _ (entry.Deliver k ∷ []) size held waiting r rule)
      rests (refl, (rule.called.before, rule.called.ends))

  pub gives-left : (job k : ℕ) → CallRule v (entry.GiveSent v.number ∷ []) [] w
      → Ends v (v.facts.has.held - 1) v.facts.waits (Left k) w → Gives share_permits job x (shared.Left 0 k) y
  gives-left job k rule ends =
      gives-back job (shared.Left 0 k) (λ size held waiting r. called _ [] size held waiting r rule) ends.1
      (refl, left-unserved k w (plain-opening (arc_value x.semaphore) mine (λ s. refl)) ends.0)

  pub gives-void : (job k : ℕ) → CallRule v (entry.GiveSent v.number ∷ []) [] w
      → Ends v (v.facts.has.held - 1) v.facts.waits (Void k) w → Gives share_permits job x (shared.Void k) y
  gives-void job k rule ends =
      gives-back job (shared.Void k) (λ size held waiting r. called _ [] size held waiting r rule) ends.1
      (let plain = plain-opening (arc_value x.semaphore) mine (λ s. refl) in
      (found-gone k w plain ends.0, void-unserved k w plain ends.0))

  -- one that was handed back, and finished then
  pub gives-under : (job : ℕ) (answer : SharedGive) (under : token.Under) (u : View Entry (Unit {0}))
      → CallRule v (entry.GiveSent v.number ∷ []) [] u
      → HandsBack v under (v.facts.has.held - 1) v.facts.waits u
      → Went semaphore_object u [] w → Rests u u.facts.has.held u.facts.waits w → TellsSent answer w.seen
      → Gives share_permits job x answer y
  gives-under job answer under u rule back after rests tells =
      gives-back job answer
      (λ size held waiting r. subst (λ es. Went semaphore_object v es w) (sym (sent-given v.number answer w.seen tells))
      (went-then semaphore_object v u w (entry.GiveSent v.number ∷ []) []
      (went-call semaphore_object v u
      (entry.GiveSent v.number ∷ []) [] r.numbers r.distinct rule.called rule.legal rule.mine
      rule.only rule.nobody) after))
      (record {
        ready = rests.ready;
        held_is = rests.held_is ∙ back.held_is;
        waits_are = rests.waits_are ∙ back.waits_are;
      })
      (sent-tells answer w.seen tells)

  -- The end of a wait, at a place of which there is a token.
  module _ (round : ℕ) (wait : Wait) (at : Place) (is : place_of wait ≡ at) (no_round : round ≡ 0)
      (there_yet : Has at.index v.facts.waits) where
    abbrev k : ℕ
    k = (place_of wait).index

    has_yet : Has k v.facts.waits
    has_yet = subst (λ (p : Place). Has p.index v.facts.waits) (sym is) there_yet

    -- one wait less is in the pass
    fewer : (a : Funds) → IsFunded x (with_wait a) → length (without k v.facts.waits) ≡ a.waiting
    fewer a funded =
        let one = x.pass.inside.once k has_yet in omega (arith, one, funded.rests.waits_are)

    others-on : Stays v w → (held : ℕ) → Rests v held (without k v.facts.waits) w
        → KeepsOthers share_permits x round k y
    others-on same held rests =
        subst (λ r. KeepsOthers share_permits x r k y) (sym no_round) (keeps-others same k held rests)

    pub looks-on : (job : ℕ) (again : Wait)
        → CallRule v (polled_entries v.number k (Pending again)) [] w → IsPolled wait v (Pending again) w
        → Looks share_permits job x round at look.Pending y
    looks-on job again rule polled =
        subst (λ p. Looks share_permits job x round p look.Pending y) is (λ a funded there.
        let r = funded.rests in
        let went = called (entry.LookPending v.number k ∷ []) [] _ _ _ r rule in
        record {
          sees = subst (λ es. Sees share_permits a.kind x es y)
              (sym (look-is a.kind round v.number k look.Pending funded.sort))
              (permits-see (with_wait a) _ funded went);
          funded = permits-have (with_wait a) (with_wait a) _ _ _ funded went polled.3 refl funded.permits r.held_is
              r.waits_are refl refl;
          parties_are = refl;
          keeps = keeps-all went.same _ _ polled.3 (λ j has. has);
        })

    pub looks-granted : (job : ℕ) (permit : Permit)
        → CallRule v (polled_entries v.number k (Granted permit)) [] w → IsPolled wait v (Granted permit) w
        → Looks share_permits job x round at (look.Granted 0) y
    looks-granted job permit rule polled =
        subst (λ p. Looks share_permits job x round p (look.Granted 0) y) is (λ a funded there.
        let r = funded.rests in
        let went = called (entry.LookGranted v.number k ∷ []) [] _ _ _ r rule in
        let more = more-total a job 0 there in
        record {
          sees = subst (λ es. Sees share_permits a.kind x es y)
              (sym (look-is a.kind round v.number k (look.Granted 0) funded.sort))
              (permits-see (with_wait a) _ funded went);
          funded = subst (IsFunded y) (sym (brought-is a.kind a job 0 funded.sort))
              (permits-have (with_wait a) (with_more a job 0) _ _ _ funded went polled.2 refl
              (permits-more a job funded.permits) (omega (arith, r.held_is, more)) (fewer a funded)
              (omega (arith, more)) refl);
          found = no-element a.kind;
          parties_are = refl;
          keeps = others-on went.same _ polled.2;
        })

    -- a cancel that found the wait served
    pub leaves-late : (job : ℕ) (permit : Permit) → HasCancelled k v (TooLate permit) w
        → Leaves share_permits job x round at (leave.Late 0) y
    leaves-late job permit told =
        subst (λ p. Leaves share_permits job x round p (leave.Late 0) y) is (λ a funded there.
        let r = funded.rests in
        let rule : CallRule v (entry.Late v.number k ∷ []) [] w
        = subst (λ passed. CallRule v (entry.Late v.number k ∷ []) (passed_further passed) w) told.2.0 told.1 in
        let went = called (entry.Late v.number k ∷ []) [] _ _ _ r rule in
        let rests : Rests v (v.facts.has.held + 1) (without k v.facts.waits) w = told.2.3 in
        let more = more-total a job 0 there in
        record {
          stays = false;
          sees = subst (λ es. Sees share_permits a.kind x es y)
              (sym (leave-is a.kind round v.number k (leave.Late 0) false funded.sort))
              (permits-see (with_wait a) _ funded went);
          funded = subst (IsFunded y) (sym (brought-is a.kind a job 0 funded.sort))
              (permits-have (with_wait a) (with_more a job 0) _ _ _ funded went rests refl
              (permits-more a job funded.permits) (omega (arith, r.held_is, more)) (fewer a funded)
              (omega (arith, more)) refl);
          found = no-element a.kind;
          parties_are = parties-is a.kind round (leave.Late 0) funded.sort;
          keeps = others-on went.same _ rests;
        })

    -- one after which nothing is owed any more
    leaves-gone : (job : ℕ)
        → ((size held waiting : ℕ) → IsResting v size held waiting
        → Went semaphore_object v (entry.Leave v.number k ∷ []) w)
        → Rests v v.facts.has.held (without k v.facts.waits) w
        → Leaves share_permits job x round at leave.Gone y
    leaves-gone job goes rests =
        subst (λ p. Leaves share_permits job x round p leave.Gone y) is (λ a funded there.
        let r = funded.rests in
        let went = goes _ _ _ r in
        record {
          stays = false;
          sees = subst (λ es. Sees share_permits a.kind x es y)
              (sym (leave-is a.kind round v.number k leave.Gone false funded.sort))
              (permits-see (with_wait a) _ funded went);
          funded = permits-have (with_wait a) a _ _ _ funded went rests refl funded.permits r.held_is
              (fewer a funded) (omega arith) refl;
          found = tt;
          parties_are = parties-is a.kind round leave.Gone funded.sort;
          keeps = others-on went.same _ rests;
        })

    pub leaves-clear : (job : ℕ) → HasCancelled k v (Cancelled None) w
        → Leaves share_permits job x round at leave.Gone y
    leaves-clear job told =
        leaves-gone job
        (λ size held waiting r. called (entry.Leave v.number k ∷ []) (passed_further told.0) size held waiting r told.1)
        (left-done k v w told.0 told.2.1)

    -- one after which a resumption was owed, and finished then
    pub leaves-owing : (job : ℕ) (under : token.Under) (u : View Entry (Unit {0}))
        → HasCancelled k v (Cancelled (Some under)) u
        → Went semaphore_object u [] w → Rests u u.facts.has.held u.facts.waits w
        → Leaves share_permits job x round at leave.Gone y
    leaves-owing job under u told after rests =
        let left = left-owing k v u under told.0 told.2.1 in
        let rule = told.1 in
        leaves-gone job
        (λ size held waiting r. went-then semaphore_object v u w (entry.Leave v.number k ∷ []) []
        (went-call semaphore_object v u (entry.Leave v.number k ∷ []) (passed_further told.0) r.numbers r.distinct
        rule.called rule.legal rule.mine rule.only rule.nobody) after)
        (record {
          ready = rests.ready;
          held_is = rests.held_is ∙ left.held_is;
          waits_are = rests.waits_are ∙ left.waits_are;
        })
