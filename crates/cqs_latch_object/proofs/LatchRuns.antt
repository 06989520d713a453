-- A latch as it is made, and every run from there.
use Rattle.std.proofs.Common.{◌≡◌, ℕ, zero, suc, ◌<◌, ◌==◌, eqb-true, pos, ◌<ℤ◌, ◌≤ℤ◌, ◌+ℤ◌, int_le, Bool, true, false, List, [], ◌∷◌, replicate, sum, length, refl, ap, sym, ◌∙◌, arith}
use Rattle.std.specs.List.{count_by}
use Rattle.std.proofs.lemmas.Int.{ints}
use Rattle.std.proofs.lemmas.List.{length-replicate}
use Rattle.cqs_core.specs.declared.doings.Doing.{Doing}
use Rattle.cqs_core.specs.declared.doings.Doing.TheVariants as doing
use Rattle.cqs_core.specs.QueueState.{Queue}
use Rattle.cqs_core.specs.QueueLine.{is_told_refused}
use Rattle.cqs_core.specs.QueueOpening.{opened_queue}
use Rattle.cqs_core.proofs.Counts.{count_by-none}
use Rattle.cqs_core.proofs.QueueOpens.{get-replicate, sum-replicate, opened-sound, opened-waiters, opened-due, opened-going, opened-ending}
use Rattle.cqs_latch_object.specs.LatchShown.{LatchShape, is_opening, has_loaded, one_where, IsLatch, IsLatchCore, holes_shown, way_shown}
use Rattle.cqs_latch_object.specs.LatchRuns.{first_shape, Step, on_queue, on_words, MayMake, after_step, MayRun, run, EveryRunIsLegal}
use Rattle.cqs_latch_object.proofs.LatchFrame.{same-latch}
use Rattle.cqs_latch_object.proofs.LatchSteps.{step-core, word-core}

some-left : (size : ℕ) → 0 < size → int_le (pos size) (pos 0) ≡ false
some-left size some = grind (arith, ints)

none-opens : (size : ℕ) → (size == 0) ≡ false → one_where (int_le (pos size) (pos 0)) ≡ 0
none-opens zero some = absurd (cc)
none-opens (suc n) some = ap one_where (some-left (suc n) (omega arith))

used-up : (size : ℕ) → (size == 0) ≡ true → pos size ≤ℤ pos 0
used-up size none = let is : size ≡ 0 = eqb-true size 0 none in rw is (omega (arith, ints))

module _ (simple : Bool) (size passes : ℕ) (some : 0 < passes) where
  abbrev q : Queue
  q = opened_queue 0 passes

  idle-count : (f : Doing → Bool) → f doing.Idle ≡ false → count_by f q.doing ≡ 0
  idle-count f none = count_by-none f q.doing (λ p d got. ap f (get-replicate passes p doing.Idle d got) ∙ none)

  long : length q.doing ≡ passes
  long = length-replicate passes doing.Idle

  no-ways : (b : Bool) → 0 ≡ way_shown b (sum (replicate passes 0)) q
  no-ways true = omega (arith, opened-going 0 passes, sum-replicate passes)
  no-ways false = omega (arith, opened-going 0 passes, sum-replicate passes)

  no-holes : (b : Bool) → [] ≡ holes_shown b q
  no-holes true = refl
  no-holes false = refl

  floor : (a n : ℕ) → a ≡ 0 → 0 < n → pos a <ℤ (pos size +ℤ pos n)
  floor a n none many = omega (arith, ints)

  opened-latch : (b : Bool) → (size == 0) ≡ b → IsLatch (record (first_shape simple size passes) { done = b })
  opened-latch b is = record {
    sound = opened-sound 0 passes;
    legal = record { at = λ n e got. absurd (cc) };
    object = same-latch refl refl is (no-ways simple) (sym (opened-waiters 0 passes)) (no-holes simple);
    owners = length-replicate passes 0 ∙ sym long;
    shut = λ shut. record {
      resumes = refl;
      none = omega (arith, opened-going 0 passes, sum-replicate passes);
      counted = omega (arith, opened-due 0 passes, opened-ending 0 passes);
      kept = λ smart. opened-ending 0 passes;
      opener = idle-count is_opening refl ∙ sym (none-opens size (is ∙ shut));
    };
    opened = λ open_now. record {
      used = used-up size (is ∙ open_now);
      ways = omega (arith, opened-going 0 passes, sum-replicate passes, opened-due 0 passes, opened-ending 0 passes);
      enough = λ smart. omega (arith, opened-due 0 passes);
      few = omega (arith, idle-count has_loaded refl);
      opener = idle-count is_opening refl;
    };
    fit = record {
      plain = λ plain. idle-count is_told_refused refl;
      low = floor (count_by has_loaded q.doing) (length q.doing) (idle-count has_loaded refl) (omega (arith, long));
      high = omega (arith, ints);
    };
  }

  -- the cells of a queue without a cell read as they are
  opened-core : (b : Bool) → IsLatch (record (first_shape b size passes) { done = size == 0 })
      → IsLatchCore (first_shape b size passes)
  opened-core true is = is
  opened-core false is = is

-- each step leads from latch to latch
pub made-core : (s : LatchShape) (t : Step) → IsLatchCore s → MayMake s t → IsLatchCore (after_step s t)
made-core s (on_queue step p k found) core may = step-core s step p k found core may.0 may.1 may.2
made-core s (on_words w p) core may = word-core s w p core may

run-core : (steps : List Step) (s : LatchShape) → IsLatchCore s → MayRun s steps → IsLatchCore (run s steps)
run-core [] s core may = core
run-core (t ∷ steps) s core may = run-core steps (after_step s t) (made-core s t core may.0) may.1

pub opens-core : (simple : Bool) (size passes : ℕ) → 0 < passes → IsLatchCore (first_shape simple size passes)
opens-core simple size passes some =
    opened-core simple size passes some simple (opened-latch simple size passes some (size == 0) refl)

pub every-run-is-legal : EveryRunIsLegal
every-run-is-legal simple size passes some steps may =
    run-core steps (first_shape simple size passes) (opens-core simple size passes some) may
