-- A pass that is alone: each of its calls is the plain barrier's call, as one thread makes it.
use Rattle.std.specs.Prelude.{◌≡◌, ℕ, List, [], ◌∷◌, ◌++◌, Result, Ok, Err}
use Rattle.cqs_barrier_object.specs.declared.entries.BarrierEntry.{BarrierEntry}
use Rattle.cqs_barrier_object.specs.declared.entries.BarrierEntry.TheVariants as entry
use Rattle.cqs_barrier_object.specs.SoleCaller as plain
use Rattle.cqs_barrier_object.specs.SoleCaller.{tells, delivers, sole_arrive, sole_poll, sole_cancel}
use Rattle.cqs_rule_laws.specs.declared.view.View.{View}
use Rattle.cqs_rule.specs.Waits.{place_of}
use Rattle.cqs_barrier.specs.declared.answers.Arrived.{Arrived}
use Rattle.cqs_barrier.specs.declared.answers.Arrived.TheVariants.{Last, LastOwing, Later}
use Rattle.cqs_barrier.specs.declared.answers.Owing.{Owing}
use Rattle.cqs_barrier.specs.declared.answers.PartyLeft.{PartyLeft}
use Rattle.cqs_barrier.specs.declared.answers.PartyLeft.TheVariants.{Withdrawn, TooLate, Contended}
use Rattle.cqs_barrier.specs.declared.answers.PartyPolled.{PartyPolled}
use Rattle.cqs_barrier.specs.declared.answers.PartyPolled.TheVariants.{Through, Pending}
use Rattle.cqs_barrier.specs.Calls.{CallRule, plain_after, waiting_in}
use Rattle.cqs_barrier.specs.Waits.{wait_in}

module _ {T : Type 0} where
  -- An arrival that hands a resumption back is the plain barrier's with the `finish` that ends it:
  -- those that it served are the first of the line, and the others still wait in it.
  pub record IsBegun (v w : View BarrierEntry T) : Type 0 where
    pub served : List ℕ
    pub called : CallRule v (entry.ArriveLast v.number ∷ []) (delivers served) w
    pub line : waiting_in v ≡ served ++ waiting_in w
    pub plain : sole_arrive v.number (plain_after v)
        ≡ tells (entry.ArriveLast v.number ∷ delivers (served ++ waiting_in w)) plain.Last

  abbrev pub IsPlainArrive : View BarrierEntry T → Arrived → View BarrierEntry T → Type 0
  IsPlainArrive v Last w =
      CallRule v (entry.ArriveLast v.number ∷ []) (delivers (waiting_in v)) w
      × (sole_arrive v.number (plain_after v)
      ≡ tells (entry.ArriveLast v.number ∷ delivers (waiting_in v)) plain.Last)
  IsPlainArrive v (LastOwing owing) w = IsBegun v w
  IsPlainArrive v (Later wait) w =
      sole_arrive v.number (plain_after v)
      ≡ tells (entry.ArriveDoor v.number
      ∷ entry.Enter v.number (place_of (wait_in wait)).index ∷ [])
      (plain.Later (place_of (wait_in wait)).index)

  -- a finish serves the rest of the line, in order, or the first of it
  abbrev pub IsPlainFinish : View BarrierEntry T → Result (Unit {0}) Owing → View BarrierEntry T
      → Type 0
  IsPlainFinish v (Ok done) w =
      CallRule v [] (delivers (waiting_in v)) w × (waiting_in w ≡ [])
  IsPlainFinish v (Err owing) w =
      (served : List ℕ) × CallRule v [] (delivers served) w
      × (waiting_in v ≡ served ++ waiting_in w)

  abbrev pub IsPlainPoll : ℕ → View BarrierEntry T → PartyPolled → Type 0
  IsPlainPoll k v Through =
      sole_poll v.number k (plain_after v) ≡ tells (entry.LookGranted v.number k ∷ []) plain.Through
  IsPlainPoll k v (Pending wait) =
      sole_poll v.number k (plain_after v) ≡ tells (entry.LookPending v.number k ∷ []) plain.Pending

  abbrev pub IsPlainCancel : ℕ → View BarrierEntry T → PartyLeft → View BarrierEntry T → Type 0
  IsPlainCancel k v Withdrawn w =
      sole_cancel v.number k (plain_after v)
      ≡ tells (entry.Withdraw v.number k ∷ []) plain.Withdrawn
  IsPlainCancel k v TooLate w =
      CallRule v (entry.Late v.number k ∷ []) [] w
      × (sole_cancel v.number k (plain_after v)
      ≡ tells (entry.Late v.number k ∷ []) plain.TooLate)
  IsPlainCancel k v (Contended saw found leaving) w = ⊥
