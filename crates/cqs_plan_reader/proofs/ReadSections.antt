-- One section after another: its resources join those of the sections before, or its first fault is the first of all.
use Rattle.std.proofs.Common.{◌≡◌, ◌≢◌, ℕ, zero, suc, ◌+◌, ◌-◌, ◌<◌, ◌≤◌, false, not, nat_lt, List, [], ◌∷◌, ◌++◌, length, get_or, take, map, Option, Some, None, Less, Equal, nat_cmp, refl, sym, ap, subst, ◌∙◌, inl, inr, arith, append_assoc}
use Rattle.std.specs.Prelude.{codes, All, AllPairs}
use Rattle.std.specs.Cmp.{tied_itself}
use Rattle.std.specs.Cmp.Lexicographic.{slice_cmp}
use Rattle.std.specs.List.{list_any}
use Rattle.std.specs.Str.{bytes_eq}
use Rattle.std.proofs.Math.Seq.{take-append_seam}
use Rattle.std.proofs.lemmas.Bool.{ltb-true, not-true, or_parts, cases_lt, false≢true}
use Rattle.std.proofs.lemmas.Cmp.{nat_list_cmp_total}
use Rattle.std.proofs.lemmas.Grind.{flat_map-append}
use Rattle.std.proofs.lemmas.List.{get_or-map, get_or_append_left, get_or-append-add, append-nil, length-append, length-map, map-append, take-append-le}
use Rattle.std.proofs.lemmas.List.Elements.{All-append}
use Rattle.std.proofs.lemmas.Slice.Eq.{bytes_eq-Decides}
use Rattle.toml.specs.Data.{Data, get_member, as_table, Members}
use Rattle.cqs_plan.specs.declared.plans.error.PlanError.{PlanError}
use Rattle.cqs_plan.specs.declared.plans.resource.Resource.{Resource}
use Rattle.cqs_plan.specs.declared.plans.fault_kind.FaultKind.TheVariants as fault
use Rattle.cqs_plan_reader.specs.declared.reader.sections.Section.{Section}
use Rattle.cqs_plan_reader.specs.declared.reader.sections.Section.TheVariants.{Semaphore, Mutex, Pool, Latch, Barrier}
use Rattle.cqs_plan.specs.Language.{is_name, ResourceKind, resource_kinds, mutexes, pools, latches, barriers}
use Rattle.cqs_plan_reader.specs.FaultRules.{Fault, each, optional, require, expect_shape, unless}
use Rattle.cqs_plan_reader.specs.Faults.{kind_faults, kinds_faults, names_in, number_faults, resource_faults, resource_number_faults, resources_faults}
use Rattle.cqs_plan_reader.specs.Places.{below_place}
use Rattle.cqs_plan_reader.specs.Meaning.{members_in, members_list, resource_in, resources_in}
use Rattle.cqs_plan.specs.Order.{IsBelow, NamesAscend, Precedes, rank}
use Rattle.cqs_plan_reader.specs.Reading.{StopsAt}
use Rattle.cqs_plan_reader.specs.Sections.{AreRead, kind_of, kinds_before, kinds_up_to, names_of}
use Rattle.cqs_plan.specs.Validity.{IsKind, IsResource}
use Rattle.cqs_plan_reader.proofs.FirstFaults.{faults_from, StopsAt-append}
use Rattle.cqs_plan_reader.proofs.ValidNumbers.{no_faults, unless-passed, required_number-valid, shaped-right, each-faultless}
use Rattle.cqs_plan_reader.proofs.ValidJobs.{get-table, nothing}

-- the faults of values after others come after those of the others
from-append : {X : Type 0} (faults : ℕ → X → List Fault) (n : ℕ) (xs ys : List X)
    → faults_from faults n (xs ++ ys) ≡ faults_from faults n xs ++ faults_from faults (n + length xs) ys
from-append faults n [] ys = ap (λ m. faults_from faults m ys) (omega arith)
from-append faults n (x ∷ xs) ys =
    ap (λ rest. faults n x ++ rest)
    (from-append faults (n + 1) xs ys
    ∙ ap (λ m. faults_from faults (n + 1) xs ++ faults_from faults m ys) (omega arith))
    ∙ sym (append_assoc (faults n x) (faults_from faults (n + 1) xs) (faults_from faults (n + suc (length xs)) ys))

from-same : {X : Type 0} (one other : ℕ → X → List Fault) (n : ℕ) (xs : List X)
    → ((i : ℕ) (x : X) → i < n + length xs → one i x ≡ other i x) → faults_from one n xs ≡ faults_from other n xs
from-same one other n [] same = refl
from-same one other n (x ∷ xs) same =
    rw (same n x (omega arith), from-same one other (n + 1) xs (λ i y below. same i y (omega arith))) refl

-- the faults of the kind at a place of such a list
abbrev at-kind : List ResourceKind → Members → ℕ → ResourceKind → List Fault
at-kind kinds root i kind = kind_faults kind (names_in (take i kinds) root) root

-- the faults of more kinds begin with those of fewer
kinds-append : (kinds more : List ResourceKind) (root : Members)
    → kinds_faults (kinds ++ more) root
    ≡ kinds_faults kinds root ++ faults_from (at-kind (kinds ++ more) root) (length kinds) more
kinds-append kinds more root =
    from-append (at-kind (kinds ++ more) root) 0 kinds more
    ∙ ap (λ n. faults_from (at-kind (kinds ++ more) root) 0 kinds ++ faults_from (at-kind (kinds ++ more) root) n more)
    (omega arith)
    ∙ ap (λ first. first ++ faults_from (at-kind (kinds ++ more) root) (length kinds) more)
    (from-same (at-kind (kinds ++ more) root) (at-kind kinds root) 0 kinds
    (λ i kind below. ap (λ earlier. kind_faults kind (names_in earlier root) root)
    (take-append-le i kinds more (omega arith))))

-- with one kind more its own faults are the next
kind-next : (kinds : List ResourceKind) (kind : ResourceKind) (more : List ResourceKind) (root : Members)
    → kinds_faults kinds root ≡ []
    → kinds_faults (kinds ++ kind ∷ more) root
    ≡ kind_faults kind (names_in kinds root) root
    ++ faults_from (at-kind (kinds ++ kind ∷ more) root) (length kinds + 1) more
kind-next kinds kind more root none =
    kinds-append kinds (kind ∷ more) root
    ∙ rw (none, take-append_seam kinds (kind ∷ more)) refl

map-map-names : (kind : ResourceKind) (members : List (List ℕ × Data))
    → names_of (map (resource_in kind) members) ≡ map (λ (m : List ℕ × Data). m.0) members
map-map-names kind [] = refl
map-map-names kind (m ∷ members) = ap (λ rest. m.0 ∷ rest) (map-map-names kind members)

-- the names of what these kinds say
names-said : (kinds : List ResourceKind) (root : Members) → names_of (resources_in kinds root) ≡ names_in kinds root
names-said [] root = refl
names-said (kind ∷ kinds) root =
    map-append (λ (r : Resource). r.name) (map (resource_in kind) (members_in (get_member kind.key root)))
    (resources_in kinds root)
    ∙ rw (map-map-names kind (members_in (get_member kind.key root)), names-said kinds root) refl

-- the kinds after a section's own
abbrev kinds_after : Section → List ResourceKind
kinds_after Semaphore = mutexes ∷ pools ∷ latches ∷ barriers ∷ []
kinds_after Mutex = pools ∷ latches ∷ barriers ∷ []
kinds_after Pool = latches ∷ barriers ∷ []
kinds_after Latch = barriers ∷ []
kinds_after Barrier = []

all-kinds : (section : Section) → resource_kinds ≡ kinds_before section ++ kind_of section ∷ kinds_after section
all-kinds Semaphore = refl
all-kinds Mutex = refl
all-kinds Pool = refl
all-kinds Latch = refl
all-kinds Barrier = refl

-- the first fault of a section is the first of all, where the sections before have none
pub stops : (section : Section) (root : Members) (found : List Resource) (e : PlanError)
    → AreRead (kinds_before section) root found
    → StopsAt (kind_faults (kind_of section) (names_of found) root) e → StopsAt (resources_faults root) e
stops section root found e read first =
    let names : names_of found ≡ names_in (kinds_before section) root =
    ap names_of read.says ∙ names-said (kinds_before section) root in
    let here : StopsAt (kind_faults (kind_of section) (names_in (kinds_before section) root) root) e =
    rw (← names) first in
    let Stops : List ResourceKind → Type 0 = λ kinds. StopsAt (kinds_faults kinds root) e in
    let first : Stops (kinds_before section ++ kind_of section ∷ kinds_after section) =
    rw (kind-next (kinds_before section) (kind_of section) (kinds_after section) root read.faultless)
    (StopsAt-append (kind_faults (kind_of section) (names_in (kinds_before section) root) root) _ e here) in
    subst Stops (sym (all-kinds section)) first

-- the resources of a section have its kind's rank
ranked : (section : Section) (m : List ℕ × Data)
    → rank (resource_in (kind_of section) m).kind ≡ length (kinds_before section)
ranked Semaphore m = refl
ranked Mutex m = refl
ranked Pool m = refl
ranked Latch m = refl
ranked Barrier m = refl

-- the numbers of a resource without a fault are in their ranges
sized : (section : Section) (name : List ℕ) (value : Data) (table : Members) → as_table value ≡ Some table
    → resource_number_faults (kind_of section) name table ≡ []
    → IsKind (resource_in (kind_of section) (name, value)).kind
sized Semaphore name value table is none =
    let place = below_place (below_place (codes "semaphore") name) (codes "size") in
    let size = get_member (codes "size") table in
    let number = no_faults (require place size (number_faults place 1 1048576)) [] none in
    rw (get-table (codes "size") value table is) (required_number-valid place 1 1048576 size number.0)
sized Mutex name value table is none = tt
sized Pool name value table is none =
    let place = below_place (below_place (codes "pool") name) (codes "size") in
    let size = get_member (codes "size") table in
    let number = no_faults (require place size (number_faults place 1 4096)) [] none in
    rw (get-table (codes "size") value table is) (required_number-valid place 1 4096 size number.0)
sized Latch name value table is none =
    let place = below_place (below_place (codes "latch") name) (codes "count") in
    let count = get_member (codes "count") table in
    let number = no_faults (require place count (number_faults place 1 1048576)) [] none in
    rw (get-table (codes "count") value table is) (required_number-valid place 1 1048576 count number.0)
sized Barrier name value table is none =
    let first = below_place (below_place (codes "barrier") name) (codes "parties") in
    let second = below_place (below_place (codes "barrier") name) (codes "rounds") in
    let parties = get_member (codes "parties") table in
    let rounds = get_member (codes "rounds") table in
    let both = no_faults (require first parties (number_faults first 1 32)) _ none in
    let other = no_faults (require second rounds (number_faults second 1 64)) [] both.1 in
    rw (get-table (codes "parties") value table is, get-table (codes "rounds") value table is)
    (required_number-valid first 1 32 parties both.0, required_number-valid second 1 64 rounds other.0)

-- what the i-th resource of a section is, if it has no fault
record IsSound (section : Section) (earlier : List (List ℕ)) (i : ℕ) (m : List ℕ × Data) : Type 0 where
  valid : IsResource (resource_in (kind_of section) m)
  few : length earlier + i < 64
  new : list_any (bytes_eq m.0) earlier ≡ false

sound : (section : Section) (earlier : List (List ℕ)) (i : ℕ) (m : List ℕ × Data)
    → resource_faults (kind_of section) earlier i m ≡ [] → IsSound section earlier i m
sound section earlier i (name, value) none =
    let kind = kind_of section in
    let place = below_place kind.key name in
    let front = no_faults (unless (is_name name) kind.key fault.Name) _ none in
    let (table, is, faultless) = shaped-right place (as_table value) _ front.1 in
    let last = no_faults _ (resource_number_faults kind name table) faultless in
    let counted = no_faults _ (unless (nat_lt (length earlier + i) 64) place fault.Many) last.0 in
    let named = no_faults _ (unless (not (list_any (bytes_eq name) earlier)) place fault.Name) counted.0 in
    record {
      valid = record {
        named = unless-passed (is_name name) _ _ front.0;
        sized = sized section name value table is last.1;
      };
      few = ltb-true (length earlier + i) 64 (unless-passed _ place _ counted.1);
      new = not-true (list_any (bytes_eq name) earlier) (unless-passed _ place _ named.1);
    }

members_in-there : (d : Data) (found : Members) → as_table d ≡ Some found
    → members_in (Some d) ≡ members_list found
members_in-there d found is = rw is refl

-- the faults of a section's table are those of its members
members-faultless : (key : List ℕ) (value : Option Data) (faults : ℕ → List ℕ × Data → List Fault)
    → optional value (λ d. expect_shape key (as_table d) (λ found. each (members_list found) faults)) ≡ []
    → faults_from faults 0 (members_in value) ≡ []
members-faultless key None faults none = refl
members-faultless key (Some d) faults none =
    let (found, is, faultless) = shaped-right key (as_table d) _ none in
    rw (members_in-there d found is) faultless

no_member : List ℕ × Data
no_member = ([], nothing)

-- each member of a section without a fault is sound
abbrev AreSound : Section → List (List ℕ) → List (List ℕ × Data) → Type 0
AreSound section earlier members = (i : ℕ) (d : List ℕ × Data) → i < length members
    → IsSound section earlier i (get_or members i d)

-- names in order are different
below_differs : (one other : List ℕ) → IsBelow one other → one ≢ other
below_differs one other less = λ same.
    let below_itself : slice_cmp nat_cmp one one ≡ Less = ap (slice_cmp nat_cmp one) same ∙ less in
    let tied : slice_cmp nat_cmp one one ≡ Equal = tied_itself nat_list_cmp_total one in
    cc

-- a name that isn't among these differs from each
differs : (name : List ℕ) (resources : List Resource) (i : ℕ) (d : Resource)
    → list_any (bytes_eq name) (names_of resources) ≡ false → i < length resources
    → (get_or resources i d).name ≢ name
differs name [] i d new below = absurd (omega arith)
differs name (r ∷ resources) zero d new below = λ same.
    let here = (or_parts (bytes_eq name r.name) _ new).0 in
    let equal = (bytes_eq-Decides name r.name).1 (sym same) in
    absurd (false≢true (sym here ∙ equal))
differs name (r ∷ resources) (suc i) d new below =
    differs name resources i d (or_parts (bytes_eq name r.name) _ new).1 (omega arith)

-- what holds of pairs in two lists, and between them, holds in both together
all-pairs-append : {X : Type 0} (R : X → X → Type 0) (xs ys : List X) → AllPairs R xs → AllPairs R ys
    → ((i j : ℕ) (d : X) → i < length xs → j < length ys → R (get_or xs i d) (get_or ys j d))
    → AllPairs R (xs ++ ys)
all-pairs-append R xs ys first second between = λ i j d less below.
    elim (cases_lt j (length xs)) [
      | inl low ↦
          rw (get_or_append_left xs ys d i (omega arith), get_or_append_left xs ys d j low) (first i j d less low)
      | inr high ↦
          let at : length xs + (j - length xs) ≡ j = omega arith in
          let inside : j - length xs < length ys = omega (arith, below, length-append xs ys) in
          let there : get_or (xs ++ ys) j d ≡ get_or ys (j - length xs) d =
          ap (λ n. get_or (xs ++ ys) n d) (sym at) ∙ get_or-append-add xs ys (j - length xs) d in
          elim (cases_lt i (length xs)) [
            | inl low ↦
                rw (get_or_append_left xs ys d i low, there) (between i (j - length xs) d low inside)
            | inr also ↦
                let at' : length xs + (i - length xs) ≡ i = omega arith in
                let there' : get_or (xs ++ ys) i d ≡ get_or ys (i - length xs) d =
                ap (λ n. get_or (xs ++ ys) n d) (sym at') ∙ get_or-append-add xs ys (i - length xs) d in
                rw (there, there') (second (i - length xs) (j - length xs) d (omega arith) inside)
          ]
    ]

module _ (section : Section) (root : Members) (found : List Resource)
    (read : AreRead (kinds_before section) root found) where
  abbrev kind : ResourceKind
  kind = kind_of section

  abbrev members : List (List ℕ × Data)
  members = members_in (get_member (kind_of section).key root)

  abbrev new : List Resource
  new = map (resource_in (kind_of section)) (members_in (get_member (kind_of section).key root))

  module _ (none : kind_faults (kind_of section) (names_of found) root ≡ []) where
    sound-members : AreSound section (names_of found) members
    sound-members = λ i d below.
        let all =
        members-faultless (kind_of section).key (get_member (kind_of section).key root)
        (resource_faults (kind_of section) (names_of found)) none in
        sound section (names_of found) i _
        (each-faultless (resource_faults (kind_of section) (names_of found)) 0 i members i d all (omega arith) below)

    few-new : length found + length members ≤ 64
    few-new = let few = read.found.few in elim (cases_lt 64 (length found + length members)) [
      | inl many ↦
          let at : 64 - length found < length members = omega (arith, few, many) in
          let past = (sound-members (64 - length found) no_member at).few in
          let names : length (names_of found) ≡ length found = length-map found (λ (r : Resource). r.name) in
          absurd (omega (arith, past, names, few))
      | inr right ↦ right
    ]

    -- a resource of the section at its place
    new-at : (j : ℕ) (d : Resource) → j < length new
        → (get_or new j d ≡ resource_in kind (get_or members j no_member))
        × IsSound section (names_of found) j (get_or members j no_member)
    new-at j d below =
        let inside : j < length members = rw (← length-map members (resource_in kind)) below in
        (get_or-map (resource_in kind) members j no_member d inside, sound-members j no_member inside)

    new-valid : All IsResource new
    new-valid = λ j d below. let (is, fits) = new-at j d below in rw is fits.valid

    new-rank : (j : ℕ) (d : Resource) → j < length new → rank (get_or new j d).kind ≡ length (kinds_before section)
    new-rank j d below = let (is, fits) = new-at j d below in rw is (ranked section (get_or members j no_member))

    apart : (i j : ℕ) (d : Resource) → i < length found → j < length new
        → (get_or found i d).name ≢ (get_or new j d).name
    apart i j d low below =
        let (is, fits) = new-at j d below in rw is (differs (get_or members j no_member).0 found i d fits.new low)

    all-read : NamesAscend new → AreRead (kinds_up_to section) root (found ++ new)
    all-read ascend =
        let names : names_of found ≡ names_in (kinds_before section) root =
        ap names_of read.says ∙ names-said (kinds_before section) root in
        let also : kind_faults (kind_of section) (names_in (kinds_before section) root) root ≡ [] = rw (← names) none in
        let many : length new ≡ length members = length-map members (resource_in kind) in
        let longer : length (kinds_up_to section) ≡ length (kinds_before section) + 1 =
        length-append (kinds_before section) (kind_of section ∷ []) in
        record {
          faultless = kind-next (kinds_before section) (kind_of section) [] root read.faultless ∙ rw also refl;
          says =
              ap (λ first. first ++ new) read.says
              ∙ ap (λ last. resources_in (kinds_before section) root ++ last) (sym (append-nil new))
              ∙ sym (flat_map-append
              (λ (k : ResourceKind). map (resource_in k) (members_in (get_member k.key root)))
              (kinds_before section) (kind_of section ∷ []));
          found = record {
            few = rw (length-append found new, many) few-new;
            valid = All-append IsResource found new read.found.valid new-valid;
            order = record {
              order =
                  all-pairs-append Precedes found new read.found.order.order
                  (λ i j d less below.
                  inr (new-rank i d (omega arith) ∙ sym (new-rank j d below), ascend i j d less below))
                  (λ i j d low below. inl (rw (new-rank j d below) (read.below i d low)));
              distinct =
                  all-pairs-append (λ (one other : Resource). one.name ≢ other.name) found new
                  read.found.order.distinct
                  (λ i j d less below. below_differs _ _ (ascend i j d less below)) apart;
            };
          };
          below =
              All-append (λ (r : Resource). rank r.kind < length (kinds_up_to section)) found new
              (λ i d low. rw longer (omega (arith, read.below i d low)))
              (λ j d below. rw (longer, new-rank j d below) (omega arith));
        }

-- the resources of a section without a fault join those of the sections before
pub joined : (section : Section) (root : Members) (found more : List Resource)
    → AreRead (kinds_before section) root found → kind_faults (kind_of section) (names_of found) root ≡ []
    → more ≡ map (resource_in (kind_of section)) (members_in (get_member (kind_of section).key root))
    → NamesAscend more → AreRead (kinds_up_to section) root (found ++ more)
joined section root found more read none says ascend =
    rw says (all-read section root found read none (subst NamesAscend says ascend))

-- before the first section nothing was read
pub none-read : (root : Members) → AreRead [] root []
none-read root = record {
  faultless = refl;
  says = refl;
  found = record {
    few = omega arith;
    valid = λ i d below. absurd (omega arith);
    order = record {
      order = λ i j d less below. absurd (omega arith);
      distinct = λ i j d less below. absurd (omega arith);
    };
  };
  below = λ i d below. absurd (omega arith);
}
