-- What a step of one pass leaves of all others, where it isn't a step of the queue.
use Rattle.std.proofs.Common.{◌≡◌, ◌≢◌, ℕ, Bool, true, sym, refl, ap, ◌∙◌, ⊎_elim, Some, slice_get}
use Rattle.cqs_core.specs.declared.doings.Doing.{Doing}
use Rattle.cqs_core.specs.declared.doings.Doing.TheVariants as doing
use Rattle.cqs_core.proofs.Places.{get-set_else}
use Rattle.cqs_rule_laws.specs.declared.view.Has.{Has}
use Rattle.cqs_rule_laws.specs.Hidden.{Hidden, stands_at, now_may_draw}
use Rattle.cqs_rule_laws.specs.Ruled.{IsWaitOf, DoorMayDraw}
use Rattle.cqs_rule_laws.proofs.Cells.{same-or-not}
use Rattle.cqs_rule_laws.proofs.Staying.{OthersStay}

-- nothing hidden changes
pub others-same : (c : Hidden) (p : ℕ) → OthersStay c c p
others-same c p = record { doing = λ n apart. refl; waits = λ n k apart w. w; stands = λ n facts apart is. is }

-- a pass has seen the counter below the limit
pub others-counted : (c : Hidden) (p : ℕ) (may : Bool) → OthersStay c (now_may_draw c p may) p
others-counted c p may = record {
  doing = λ n apart. refl;
  waits = λ n k apart w. w;
  stands = λ n facts apart is. record {
    doing = is.doing;
    has = is.has;
    may_draw = get-set_else c.may_draw p n may (λ e. apart (sym e)) ∙ is.may_draw;
    waits = is.waits;
    all_waits = is.all_waits;
    once = is.once;
    last = is.last;
    behind = is.behind;
  };
}

-- a pass is at something else
pub others-moved : (c : Hidden) (p : ℕ) (d : Doing) (has : Has) → OthersStay c (stands_at c p d has) p
others-moved c p d has = record {
  doing = λ n apart. get-set_else c.queue.doing p n d (λ e. apart (sym e));
  waits = λ n k apart w. wait-back k n w;
  stands = λ n facts apart is. record {
    doing = get-set_else c.queue.doing p n d (λ e. apart (sym e)) ∙ is.doing;
    has = get-set_else c.has p n has (λ e. apart (sym e)) ∙ is.has;
    may_draw = is.may_draw;
    waits = λ k h. wait-moved k n (is.waits k h);
    all_waits = λ k w. is.all_waits k (wait-back k n w);
    once = is.once;
    last = is.last;
    behind = is.behind;
  };
}
  where
    wait-moved : (k n : ℕ) → IsWaitOf c.queue n k → IsWaitOf (stands_at c p d has).queue n k
    wait-moved k n w = record {
      cell = w.cell;
      there = w.there;
      owner = w.owner;
      drawn = w.drawn;
      uncollected = w.uncollected;
      installed = w.installed;
    }

    wait-back : (k n : ℕ) → IsWaitOf (stands_at c p d has).queue n k → IsWaitOf c.queue n k
    wait-back k n w = record {
      cell = w.cell;
      there = w.there;
      owner = w.owner;
      drawn = w.drawn;
      uncollected = w.uncollected;
      installed = w.installed;
    }

pub door-keeps : (c d : Hidden) (p : ℕ) → DoorMayDraw c
    → ((n : ℕ) → n ≢ p → slice_get d.queue.doing n ≡ slice_get c.queue.doing n)
    → ((n : ℕ) → n ≢ p → slice_get d.may_draw n ≡ slice_get c.may_draw n)
    → (slice_get d.queue.doing p ≡ Some doing.Door → slice_get d.may_draw p ≡ Some true) → DoorMayDraw d
door-keeps c d p door doings may self n at = ⊎_elim
    (λ (q : n ≡ p). ap (slice_get d.may_draw) q ∙ self (sym (ap (slice_get d.queue.doing) q) ∙ at))
    (λ (a : n ≢ p). may n a ∙ door n (sym (doings n a) ∙ at))
    (same-or-not n p)
