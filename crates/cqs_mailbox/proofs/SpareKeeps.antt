-- The passes that rest until their posts are made: as they are made, and as one of them is taken.
use Rattle.std.proofs.Common.{◌≡◌, ℕ, ◌+◌, ◌-◌, ◌<◌, List, [], ◌∷◌, ◌++◌, All, Option, Some, None, IfSome, option_to_list, length, refl, sym, ap, ◌∙◌, subst, inl, arith}
use Rattle.std.proofs.lemmas.List.{length_push}
use Rattle.std.proofs.lemmas.List.Elements.{All-nil, All-push, All-pop}
use Rattle.cqs_pool_object.specs.declared.entries.PoolEntry.{PoolEntry}
use Rattle.cqs_rule_laws.specs.declared.client.ClientWords.{Ghosts}
use Rattle.cqs_rule_laws.specs.declared.view.View.{View}
use Rattle.cqs_rule_laws.specs.Crew.{Came}
use Rattle.cqs_rule_laws.specs.Lists.{part}
use Rattle.cqs_rule_laws.proofs.Lists.{part_more}
use Rattle.cqs_rule.specs.declared.queue.Pass.{Pass}
use Rattle.cqs_rule.specs.Passes.{pass_view}
use Rattle.cqs_pool.specs.declared.client.PoolClient.{PoolClient}
use Rattle.cqs_pool.specs.declared.pool.Pool.{Pool}
use Rattle.cqs_pool.specs.Calls.{IsMine}
use Rattle.cqs_pool.specs.Pool.{pool_object}
use Rattle.cqs_pool.specs.Seats.{LookedOn}
use Rattle.cqs_mailbox.specs.Spare.{AreSpare, IsSpare}

-- a pass that looked on still stands in no entry
pub unnamed-looked : (v w : View PoolEntry (Unit {0})) → LookedOn v w → v.own ≡ v.number ∷ []
    → part pool_object.names v.number v.seen ≡ [] → part pool_object.names w.number w.seen ≡ []
unnamed-looked v w looked own none =
    let c = looked.course in
    let silent = c.mine v.number (rw own (inl refl)) in
    rw (c.number, c.seen) (part_more pool_object.names v.number v.seen c.more silent ∙ none)

pub own-looked : (v w : View PoolEntry (Unit {0})) → LookedOn v w → v.own ≡ v.number ∷ [] → w.own ≡ w.number ∷ []
own-looked v w looked own = looked.saw.same.own ∙ (own ∙ ap (λ n. n ∷ []) (sym looked.course.number))

-- a pass of the pool, as the desk has them
abbrev PoolPass : Ghosts (PoolClient (Unit {0})) (Unit {0}) PoolEntry → Type 0
PoolPass g = Pass (PoolClient (Unit {0})) (Unit {0}) PoolEntry g

module _ {g : Ghosts (PoolClient (Unit {0})) (Unit {0}) PoolEntry} where
  pub spare-made : (pool : Pool (Unit {0})) (line p : PoolPass g) → IsMine pool p
      → Came pool_object (pass_view line) (pass_view p) → IsSpare pool p
  spare-made pool line p mine came = record {
    mine = mine;
    facts = came.facts;
    own = came.own;
    unnamed = came.unnamed;
    childless = came.childless;
  }

  pub spare-none : (pool : Pool (Unit {0})) (ps : List (PoolPass g)) → ps ≡ [] → AreSpare pool 0 ps
  spare-none pool ps none = rw none (record { long = refl; each = All-nil (IsSpare pool) })

  pub spare-more : (pool : Pool (Unit {0})) (many : ℕ) (ps qs : List (PoolPass g)) (p : PoolPass g) → qs ≡ ps ++ p ∷ []
      → AreSpare pool many ps → IsSpare pool p → AreSpare pool (many + 1) qs
  spare-more pool many ps qs p more are is = rw more (record {
    long = length_push ps p ∙ ap (λ n. n + 1) are.long;
    each = All-push (IsSpare pool) ps p are.each is;
  })

  -- one is taken, where so many of the most posts were made before and now
  pub spare-fewer : (pool : Pool (Unit {0})) (most made now : ℕ) (ps qs : List (PoolPass g)) (p : PoolPass g)
      → ps ≡ qs ++ p ∷ [] → now ≡ made + 1 → made < most → AreSpare pool (most - made) ps
      → AreSpare pool (most - now) qs
  spare-fewer pool most made now ps qs p parts one low are = record {
    long = let long = are.long in let more = ap length parts ∙ length_push qs p in omega (arith, long, more, one, low);
    each = (All-pop (IsSpare pool) ps qs (Some p) parts are.each).0;
  }

  pub spare-taken : (pool : Pool (Unit {0})) (many : ℕ) (ps qs : List (PoolPass g)) (p : PoolPass g)
      → ps ≡ qs ++ p ∷ [] → AreSpare pool many ps → IsSpare pool p
  spare-taken pool many ps qs p parts are = (All-pop (IsSpare pool) ps qs (Some p) parts are.each).1
