-- Where the words before the slots stand.
use Rattle.std.proofs.Common.{ℕ, ◌<◌, arith}
use Rattle.cqs_slots.specs.Layout.{tail_place}
use Rattle.cqs_rule_laws.specs.Layout.{crew_place, suspends_place, resumes_place, client_place, words_for}

-- the tail and the slots stand behind every other word
pub behind-crew : crew_place < tail_place
behind-crew = omega arith

pub behind-suspends : suspends_place < tail_place
behind-suspends = omega arith

pub behind-resumes : resumes_place < tail_place
behind-resumes = omega arith

pub behind-client : (i : ℕ) → i < 4 → client_place i < tail_place
behind-client i few = omega arith

-- each of these words is one of the table's
pub suspends-inside : (cells : ℕ) → suspends_place < words_for cells
suspends-inside cells = omega arith

pub resumes-inside : (cells : ℕ) → resumes_place < words_for cells
resumes-inside cells = omega arith

pub client-inside : (i cells : ℕ) → i < 4 → client_place i < words_for cells
client-inside i cells few = omega arith
