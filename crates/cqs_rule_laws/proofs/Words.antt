-- How the words of a table go on where one of them is written.
use Rattle.std.proofs.Common.{◌≡◌, ◌≢◌, ℕ, zero, suc, ◌<◌, List, [], ◌∷◌, length, sym, refl, ap, ◌∙◌, subst, arith, get_or-set_other, get_or-set_same, length-set}
use Rattle.std.specs.Prelude.{slice_index, slice_set}
use Rattle.cqs_core.specs.QueueCells.{IsBare}
use Rattle.cqs_slots.specs.Layout.{tail_place}
use Rattle.cqs_slots.specs.Slots.{Segments}
use Rattle.cqs_slots.proofs.Stays.{all-stay}
use Rattle.cqs_words.specs.Cell.{index_in}
use Rattle.cqs_core.specs.QueueState.{Queue}
use Rattle.cqs_rule_laws.specs.Layout.{crew_place, resumes_place, client_place, client_words, IsIdle}
use Rattle.cqs_rule_laws.specs.Hidden.{Hidden, state_at}
use Rattle.cqs_rule_laws.specs.Ruled.{CountersShow, CellsShow, IdleWords, word_of, word_at}

pub other-word : (words : List ℕ) (i j x : ℕ) → j ≢ i → slice_index (slice_set words i x) j ≡ slice_index words j
other-word words i j x apart = get_or-set_other words i j x 0 apart

pub this-word : (words : List ℕ) (i x : ℕ) → i < length words → slice_index (slice_set words i x) i ≡ x
this-word words i x below = get_or-set_same words i x 0 below

-- the crew's word is another
pub crew-else : (words : List ℕ) (i x : ℕ) → crew_place < i
    → slice_index (slice_set words i x) crew_place ≡ slice_index words crew_place
crew-else words i x above = other-word words i crew_place x (λ e. omega arith)

pub counters-else : (q r : Queue) (words : List ℕ) (i x : ℕ) → resumes_place < i → r.suspends ≡ q.suspends
    → r.resumes ≡ q.resumes
    → CountersShow q words → CountersShow r (slice_set words i x)
counters-else q r words i x above suspends resumes show = record {
  suspends = other-word words i 16 x (λ e. omega arith) ∙ (show.suspends ∙ sym suspends);
  resumes = other-word words i 32 x (λ e. omega arith) ∙ (show.resumes ∙ sym resumes);
}

-- the cells keep their states and payloads, and no word changes
pub cells-same : (t : Segments) (c d : Hidden) (cells : ℕ) (words : List ℕ)
    → ((k : ℕ) → state_at d.queue k ≡ state_at c.queue k) → ((k : ℕ) → d.payloads k ≡ c.payloads k)
    → CellsShow t c cells words → CellsShow t d cells words
cells-same t c d cells words states payloads show = record {
  shows = all-stay cells t (word_at c) (word_at d) words words show.sound (omega arith) (λ j behind. refl)
      says show.shows;
  sound = show.sound;
  made = record {
    numbered = λ k. ap index_in (says k) ∙ show.made.numbered k;
    unmade = λ k high. says k ∙ show.made.unmade k high;
  };
  fits = λ k. let f = show.fits k in let e = payloads k in omega arith;
  bare = λ k is. payloads k ∙ show.bare k (subst IsBare (states k) is);
}
  where
    says : (k : ℕ) → word_at d k ≡ word_at c k
    says k = λ j. word_of k (states k j) (payloads k j)

-- the cells keep their states and payloads, and the word is none of the slots'
pub cells-else : (t : Segments) (c d : Hidden) (cells : ℕ) (words : List ℕ) (i x : ℕ) → i < tail_place
    → ((k : ℕ) → state_at d.queue k ≡ state_at c.queue k) → ((k : ℕ) → d.payloads k ≡ c.payloads k)
    → CellsShow t c cells words → CellsShow t d cells (slice_set words i x)
cells-else t c d cells words i x front states payloads show = record {
  shows = all-stay cells t (word_at c) (word_at d) words (slice_set words i x) show.sound
      (let e = length-set words i x in omega arith)
      (λ j behind. other-word words i j x (λ e. omega arith)) says show.shows;
  sound = show.sound;
  made = record {
    numbered = λ k. ap index_in (says k) ∙ show.made.numbered k;
    unmade = λ k high. says k ∙ show.made.unmade k high;
  };
  fits = λ k. let f = show.fits k in let e = payloads k in omega arith;
  bare = λ k is. payloads k ∙ show.bare k (subst IsBare (states k) is);
}
  where
    says : (k : ℕ) → word_at d k ≡ word_at c k
    says k = λ j. word_of k (states k j) (payloads k j)

-- the word is none of those between
pub idle-else : (words : List ℕ) (i x : ℕ) → ((j : ℕ) → IsIdle j → j ≢ i) → IdleWords words
    → IdleWords (slice_set words i x)
idle-else words i x apart idle = record { none = λ j is. other-word words i j x (apart j is) ∙ idle.none j is }

pub client-below : (words : List ℕ) (i x : ℕ) → i < client_place 0
    → client_words (slice_set words i x) ≡ client_words words
client-below words i x low = λ j.
    other-word words i 48 x (λ e. omega arith) j
    ∷ other-word words i 64 x (λ e. omega arith) j
    ∷ other-word words i 80 x (λ e. omega arith) j
    ∷ other-word words i 96 x (λ e. omega arith) j ∷ []

pub client-above : (words : List ℕ) (i x : ℕ) → client_place 3 < i
    → client_words (slice_set words i x) ≡ client_words words
client-above words i x high = λ j.
    other-word words i 48 x (λ e. omega arith) j
    ∷ other-word words i 64 x (λ e. omega arith) j
    ∷ other-word words i 80 x (λ e. omega arith) j
    ∷ other-word words i 96 x (λ e. omega arith) j ∷ []

pub client-at : (words : List ℕ) (i : ℕ) → i < 4
    → slice_index (client_words words) i ≡ slice_index words (client_place i)
client-at words zero low = refl
client-at words (suc zero) low = refl
client-at words (suc (suc zero)) low = refl
client-at words (suc (suc (suc zero))) low = refl
client-at words (suc (suc (suc (suc i)))) low = absurd (omega arith)

pub client-set : (words : List ℕ) (i x : ℕ) → i < 4 → ((j : ℕ) → j < 4 → client_place j < length words)
    → client_words (slice_set words (client_place i) x) ≡ slice_set (client_words words) i x
client-set words zero x low long = λ j.
    this-word words 48 x (long 0 (omega arith)) j
    ∷ other-word words 48 64 x (λ e. omega arith) j
    ∷ other-word words 48 80 x (λ e. omega arith) j
    ∷ other-word words 48 96 x (λ e. omega arith) j ∷ []
client-set words (suc zero) x low long = λ j.
    other-word words 64 48 x (λ e. omega arith) j
    ∷ this-word words 64 x (long 1 (omega arith)) j
    ∷ other-word words 64 80 x (λ e. omega arith) j
    ∷ other-word words 64 96 x (λ e. omega arith) j ∷ []
client-set words (suc (suc zero)) x low long = λ j.
    other-word words 80 48 x (λ e. omega arith) j
    ∷ other-word words 80 64 x (λ e. omega arith) j
    ∷ this-word words 80 x (long 2 (omega arith)) j
    ∷ other-word words 80 96 x (λ e. omega arith) j ∷ []
client-set words (suc (suc (suc zero))) x low long = λ j.
    other-word words 96 48 x (λ e. omega arith) j
    ∷ other-word words 96 64 x (λ e. omega arith) j
    ∷ other-word words 96 80 x (λ e. omega arith) j
    ∷ this-word words 96 x (long 3 (omega arith)) j ∷ []
client-set words (suc (suc (suc (suc i)))) x low long = absurd (omega arith)
