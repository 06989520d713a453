-- What the line and the services become where one wait of the table changes.
use Rattle.std.proofs.Common.{◌≡◌, ◌≢◌, ℕ, ◌+◌, List, [], ◌∷◌, ◌++◌, length, set, Some, None, true, false, slice_get, refl, sym, ap, ◌∙◌, arith, eq-eqb, ne_eqb, append-nil}
use Rattle.cqs_core.specs.Numbered.{pick_each}
use Rattle.cqs_core.specs.Keyed.{insert_by, without, change_by}
use Rattle.cqs_core.specs.QueueLine.{Waiting, Service}
use Rattle.cqs_core.specs.QueueWaiters.{find_wait}
use Rattle.cqs_core.proofs.Keys.{Around, AllBelow, around-came, around-went, around-changed, around-kept, around-shorter}
use Rattle.cqs_core.proofs.Picked.{picked-around, picked-push}
use Rattle.cqs_check.specs.declared.waits.WaitState.{WaitState}
use Rattle.cqs_check.specs.declared.waits.WaitState.TheVariants as wait
use Rattle.cqs_check.specs.Lines.{waiting_at, served_at}

wait_of : Waiting → ℕ
wait_of w = w.wait

service_wait : Service → ℕ
service_wait s = s.wait

line-key : (k : ℕ) (x : WaitState) (w : Waiting) → waiting_at k x ≡ Some w → w.wait ≡ k
line-key k (wait.Waiting c) w some = let is : record { wait = k; pass = c } ≡ w = cc in
    ap (λ (v : Waiting). v.wait) (sym is)
line-key k (wait.Served c) w some = absurd (cc)
line-key k (wait.Closed c) w some = absurd (cc)
line-key k wait.Gone w some = absurd (cc)

service-key : (k : ℕ) (x : WaitState) (s : Service) → served_at k x ≡ Some s → s.wait ≡ k
service-key k (wait.Waiting c) s some = absurd (cc)
service-key k (wait.Served c) s some = let is : record { wait = k; pass = c; is_open = true } ≡ s = cc in
    ap (λ (v : Service). v.wait) (sym is)
service-key k (wait.Closed c) s some = let is : record { wait = k; pass = c; is_open = false } ≡ s = cc in
    ap (λ (v : Service). v.wait) (sym is)
service-key k wait.Gone s some = absurd (cc)

line-around : (ws : List WaitState) (k : ℕ) (old new : WaitState) → slice_get ws k ≡ Some old
    → Around (λ (w : Waiting). w.wait) k (pick_each waiting_at 0 ws) (pick_each waiting_at 0 (set ws k new))
    (waiting_at k old) (waiting_at k new)
line-around ws k old new there =
    picked-around waiting_at waiting_at (λ (w : Waiting). w.wait) (record { at = λ n x w some. line-key n x w some }) k
    (record { at = λ m x other. refl }) 0 ws k old new (omega arith) there

service-around : (ws : List WaitState) (k : ℕ) (old new : WaitState) → slice_get ws k ≡ Some old
    → Around (λ (s : Service). s.wait) k (pick_each served_at 0 ws) (pick_each served_at 0 (set ws k new))
    (served_at k old) (served_at k new)
service-around ws k old new there =
    picked-around served_at served_at (λ (s : Service). s.wait) (record { at = λ n x s some. service-key n x s some }) k
    (record { at = λ m x other. refl }) 0 ws k old new (omega arith) there

-- a wait goes to the end of the line
pub line-entered : (ws : List WaitState) (c : ℕ)
    → pick_each waiting_at 0 (ws ++ wait.Waiting c ∷ []) ≡ pick_each waiting_at 0 ws ++ record {
      wait =
          length ws;
      pass = c;
    } ∷ []
line-entered ws c = picked-push waiting_at 0 ws (wait.Waiting c) (length ws) (omega arith)

-- a wait is out of the line
pub line-left : (ws : List WaitState) (k c : ℕ) (new : WaitState) → slice_get ws k ≡ Some (wait.Waiting c)
    → waiting_at k new ≡ None
    → pick_each waiting_at 0 (set ws k new) ≡ without (λ (w : Waiting). w.wait) k (pick_each waiting_at 0 ws)
line-left ws k c new there none =
    around-went (λ (w : Waiting). w.wait) k (pick_each waiting_at 0 ws) (pick_each waiting_at 0 (set ws k new))
    (waiting_at k (wait.Waiting c)) (waiting_at k new)
    (line-around ws k (wait.Waiting c) new there) (record { wait = k; pass = c }) refl none refl

-- a wait was served
pub service-came : (ws : List WaitState) (k c : ℕ) → slice_get ws k ≡ Some (wait.Waiting c)
    → pick_each served_at 0 (set ws k (wait.Served c))
    ≡ insert_by (λ (s : Service). s.wait) (record { wait = k; pass = c; is_open = true }) (pick_each served_at 0 ws)
service-came ws k c there =
    around-came (λ (s : Service). s.wait) k (pick_each served_at 0 ws)
    (pick_each served_at 0 (set ws k (wait.Served c))) None
    (Some (record { wait = k; pass = c; is_open = true }))
    (service-around ws k (wait.Waiting c) (wait.Served c) there) (record {
      wait = k;
      pass = c;
      is_open =
          true;
    }) refl refl refl

-- and was looked at
pub service-closed : (ws : List WaitState) (k c : ℕ) → slice_get ws k ≡ Some (wait.Served c)
    → pick_each served_at 0 (set ws k (wait.Closed c))
    ≡ change_by (λ (s : Service). s.wait) k (λ s. record { wait = s.wait; pass = s.pass; is_open = false })
    (pick_each served_at 0 ws)
service-closed ws k c there =
    around-changed (λ (s : Service). s.wait) k (pick_each served_at 0 ws)
    (pick_each served_at 0 (set ws k (wait.Closed c)))
    (Some (record { wait = k; pass = c; is_open = true })) (Some (record { wait = k; pass = c; is_open = false }))
    (service-around ws k (wait.Served c) (wait.Closed c) there) (record { wait = k; pass = c; is_open = true })
    (λ s. record { wait = s.wait; pass = s.pass; is_open = false }) refl refl refl

-- who waits under a number of the line
find-around : (k : ℕ) (front back : List Waiting) (w : Waiting) → AllBelow (λ (v : Waiting). v.wait) k front
    → w.wait ≡ k
    → find_wait k (front ++ w ∷ back) ≡ Some w
find-around k [] back w low here = rw (eq-eqb k w.wait (sym here)) refl
find-around k (v ∷ front) back w low here =
    let other : k ≢ v.wait = λ e. omega (arith, low.0, e) in
    rw (ne_eqb k v.wait other) (find-around k front back w low.1 here)

pub found-there : (ws : List WaitState) (k c : ℕ) → slice_get ws k ≡ Some (wait.Waiting c)
    → find_wait k (pick_each waiting_at 0 ws) ≡ Some (record { wait = k; pass = c })
found-there ws k c there =
    let a = line-around ws k (wait.Waiting c) wait.Gone there in
    rw a.was (find-around k a.front a.back (record { wait = k; pass = c }) a.low refl)

-- a new wait is no service
pub service-entered : (ws : List WaitState) (c : ℕ)
    → pick_each served_at 0 (ws ++ wait.Waiting c ∷ []) ≡ pick_each served_at 0 ws
service-entered ws c = picked-push served_at 0 ws (wait.Waiting c) (length ws) (omega arith)
    ∙ append-nil (pick_each served_at 0 ws)

-- and a number that is nobody's is neither in the line nor a service
pub line-passed : (ws : List WaitState) → pick_each waiting_at 0 (ws ++ wait.Gone ∷ []) ≡ pick_each waiting_at 0 ws
line-passed ws = picked-push waiting_at 0 ws wait.Gone (length ws) (omega arith)
    ∙ append-nil (pick_each waiting_at 0 ws)

pub service-passed : (ws : List WaitState) → pick_each served_at 0 (ws ++ wait.Gone ∷ []) ≡ pick_each served_at 0 ws
service-passed ws = picked-push served_at 0 ws wait.Gone (length ws) (omega arith)
    ∙ append-nil (pick_each served_at 0 ws)

-- and the line is shorter by one that left it
pub line-shorter : (ws : List WaitState) (k c : ℕ) (new : WaitState) → slice_get ws k ≡ Some (wait.Waiting c)
    → waiting_at k new ≡ None
    → length (pick_each waiting_at 0 (set ws k new)) + 1 ≡ length (pick_each waiting_at 0 ws)
line-shorter ws k c new there none =
    around-shorter (λ (w : Waiting). w.wait) k (pick_each waiting_at 0 ws) (pick_each waiting_at 0 (set ws k new))
    (waiting_at k (wait.Waiting c)) (waiting_at k new)
    (line-around ws k (wait.Waiting c) new there) (record { wait = k; pass = c }) refl none

-- a change that isn't seen in the line
pub line-same : (ws : List WaitState) (k : ℕ) (old new : WaitState) → slice_get ws k ≡ Some old
    → waiting_at k old ≡ waiting_at k new
    → pick_each waiting_at 0 (set ws k new) ≡ pick_each waiting_at 0 ws
line-same ws k old new there same =
    around-kept (λ (w : Waiting). w.wait) k (pick_each waiting_at 0 ws) (pick_each waiting_at 0 (set ws k new))
    (waiting_at k old) (waiting_at k new)
    (line-around ws k old new there) same

-- and one that isn't seen among the services
pub service-same : (ws : List WaitState) (k : ℕ) (old new : WaitState) → slice_get ws k ≡ Some old
    → served_at k old ≡ served_at k new
    → pick_each served_at 0 (set ws k new) ≡ pick_each served_at 0 ws
service-same ws k old new there same =
    around-kept (λ (s : Service). s.wait) k (pick_each served_at 0 ws) (pick_each served_at 0 (set ws k new))
    (served_at k old) (served_at k new)
    (service-around ws k old new there) same
