-- The crew's word: the two numbers in it, what one more or one fewer makes of it, and the words that it isn't.
use Rattle.std.proofs.Common.{◌≡◌, ℕ, ◌+◌, ◌-◌, ◌*◌, ◌/◌, ◌%◌, ◌<◌, ◌≤◌, true, false, true≢false, List, [], ◌++◌, sym, refl, ◌∙◌, ⊎_elim, inl, inr, arith}
use Rattle.std.specs.Prelude.{slice_set}
use Rattle.cqs_core.specs.QueueState.{Queue}
use Rattle.cqs_slots.specs.Slots.{Segments}
use Rattle.cqs_rule_laws.specs.Hidden.{Hidden}
use Rattle.cqs_rule_laws.specs.Lists.{Has}
use Rattle.cqs_rule_laws.specs.Views.{WasCrew, made_in, live_in}
use Rattle.cqs_rule_laws.specs.Ruled.{CountersShow, CellsShow, IdleWords}
use Rattle.cqs_rule_laws.proofs.CellPlaces.{behind-crew}
use Rattle.cqs_rule_laws.proofs.Words.{other-word, cells-else, idle-else}
use Rattle.cqs_rule_laws.proofs.Lists.{has_append}

-- the two numbers of the crew's word
pub crew-of : (n made live : ℕ) → n ≡ made * 4294967296 + live → live < 4294967296
    → (live_in n ≡ live) × (made_in n ≡ made)
crew-of n made live e small = (omega arith, omega arith)

-- one more was made
pub crew-made : (made live c : ℕ) → live ≤ made → made < 4294967296 → WasCrew made live c
    → WasCrew (made + 1) (live + 1) c
crew-made made live c more few (inl h) = inl (omega arith)
crew-made made live c more few (inr e) =
    let q = crew-of c made live e (omega arith) in
    let a : c % 4294967296 ≡ live = q.0 in let b : c / 4294967296 ≡ made = q.1 in inl (omega arith)

-- one was met away
pub crew-met : (made live c : ℕ) → live ≤ made → made < 4294967296 → 0 < live → WasCrew made live c
    → WasCrew made (live - 1) c
crew-met made live c more few some_live (inl h) = inl (omega arith)
crew-met made live c more few some_live (inr e) =
    let q = crew-of c made live e (omega arith) in
    let a : c % 4294967296 ≡ live = q.0 in let b : c / 4294967296 ≡ made = q.1 in inl (omega arith)

pub off : false ≡ true → ⊥
off e = true≢false (sym e)

pub only-left : (n : ℕ) (xs : List ℕ) → Has n (xs ++ []) → Has n xs
only-left n xs h = ⊎_elim (λ q. q) (λ q. absurd q) (has_append n xs [] h)

-- the crew's word is written: it is none of the counters', the cells', the client's, and those between
pub counters-stay : (q : Queue) (words : List ℕ) (x : ℕ) → CountersShow q words → CountersShow q (slice_set words 0 x)
counters-stay q words x show = record {
  suspends = other-word words 0 16 x (λ e. omega arith) ∙ show.suspends;
  resumes = other-word words 0 32 x (λ e. omega arith) ∙ show.resumes;
}

pub cells-stay : (t : Segments) (c : Hidden) (cells : ℕ) (words : List ℕ) (x : ℕ) → CellsShow t c cells words
    → CellsShow t c cells (slice_set words 0 x)
cells-stay t c cells words x show = cells-else t c c cells words 0 x behind-crew (λ k. refl) (λ k. refl) show

pub idle-stay : (words : List ℕ) (x : ℕ) → IdleWords words → IdleWords (slice_set words 0 x)
idle-stay words x idle = idle-else words 0 x (λ j is. is.crew) idle
