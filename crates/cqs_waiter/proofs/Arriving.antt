-- The calls of one who waits, one after the other.
use Rattle.std.proofs.Common.{ℕ, zero, suc, Option, Some, None, Result, Ok, Err, refl, subst, inl, inr}
use Rattle.cqs_rule_laws.specs.declared.config.AcquireError.{AcquireError}
use Rattle.cqs_waiter.specs.Arrivals.{WaiterCalls, LooksOn, Arrives, BeginsAtOnce, BeginsToWait, BeginsRefused, Pends, StillLooks}

module _ {V W X : Type 0} (calls : WaiterCalls V W X) where
  -- what is ready when a poll begins
  pub begun-arrives : (v w : V) (wait : Option W) (it : X) → BeginsAtOnce calls v wait it w
      → Arrives calls v wait (Ok it) w
  begun-arrives v w None it b = inl b
  begun-arrives v w (Some wait) it b = absurd b

  pub refused-arrives : (v w : V) (wait : Option W) (e : AcquireError) → BeginsRefused calls v wait e w
      → Arrives calls v wait (Err e) w
  refused-arrives v w None e b = b
  refused-arrives v w (Some wait) e b = absurd b

  -- a poll that began with a wait, and whose look found it served
  pub served-arrives : (v u w : V) (wait : Option W) (first : W) (it : X) → BeginsToWait calls v wait first u
      → calls.serves first u it w → Arrives calls v wait (Ok it) w
  served-arrives v u w None first it b look =
      inr (first, u, b, record { times = 0; last = first; before = u; looked = (refl, refl); served = look })
  served-arrives v u w (Some wait) first it b look =
      record { times = 0; last = first; before = u; looked = b; served = look }

  -- and one whose look found nothing new
  pub looked-pends : (v u w : V) (wait : Option W) (first again : W) → BeginsToWait calls v wait first u
      → calls.pends first u again w → Pends calls v wait again w
  looked-pends v u w wait first again b look = record { first = first; from = u; begins = b; looked = look }

  -- What comes of a wait whose look was pending comes of that poll's start.
  pub arrives-still : (v m w : V) (wait : Option W) (again : W) (got : Result X AcquireError)
      → Pends calls v wait again m → Arrives calls m (Some again) got w → Arrives calls v wait got w
  arrives-still v m w None again (Ok it) p came =
      inr (
        p.first,
        p.from,
        p.begins,
        record {
          times = suc came.times;
          last = came.last;
          before = came.before;
          looked = (again, m, p.looked, came.looked);
          served = came.served;
        },
      )
  arrives-still v m w (Some wait) again (Ok it) p came =
      record {
        times = suc came.times;
        last = came.last;
        before = came.before;
        looked = (
          again,
          m,
          subst (λ (z : W × V). calls.pends z.0 z.1 again m) (λ i. (p.begins.0 i, p.begins.1 i)) p.looked,
          came.looked,
        );
        served = came.served;
      }
  arrives-still v m w None again (Err e) p came = absurd came
  arrives-still v m w (Some wait) again (Err e) p came = absurd came

  -- one look more
  one-look_more : (times : ℕ) (wait last next : W) (v u w : V) → LooksOn calls times wait v last u
      → calls.pends last u next w → LooksOn calls (suc times) wait v next w
  one-look_more zero wait last next v u w (same, here) look =
      (next, w, subst (λ (z : W × V). calls.pends z.0 z.1 next w) (λ i. (same i, here i)) look, (refl, refl))
  one-look_more (suc times) wait last next v u w (second, m, first, rest) look =
      (second, m, first, one-look_more times second last next m u w rest look)

  pub looks-first : (v w : V) (wait : W) → calls.waits v wait w → StillLooks calls v wait w
  looks-first v w wait asked = record { first = wait; from = w; asked = asked; times = 0; looked = (refl, refl) }

  pub looks-more : (v m w : V) (wait again : W) → StillLooks calls v wait m → calls.pends wait m again w
      → StillLooks calls v again w
  looks-more v m w wait again s look = record {
    first = s.first;
    from = s.from;
    asked = s.asked;
    times = suc s.times;
    looked = one-look_more s.times s.first wait again s.from m w s.looked look;
  }

  pub looks-end : (v m w : V) (wait : W) (it : X) → StillLooks calls v wait m → calls.serves wait m it w
      → Arrives calls v None (Ok it) w
  looks-end v m w wait it s look =
      inr (
        s.first,
        s.from,
        s.asked,
        record { times = s.times; last = wait; before = m; looked = s.looked; served = look },
      )
