-- Where a text is cut, and what numbers stand in it.
use Rattle.std.proofs.Common.{◌≡◌, ◌≢◌, ◌⊎◌, inl, inr, ℕ, zero, suc, ◌+◌, ◌<◌, ◌≤◌, ◌^◌, ◌/◌, ◌%◌, List, [], ◌∷◌, ◌++◌, length, Option, Some, None, refl, sym, ap, ap₂, ◌∙◌, subst, arith, decimal, append_assoc, append-nil, length-append, ◌==◌, true, eq-eqb, eqb-true, take, drop, slice_index}
use Rattle.std.proofs.lemmas.Fmt.{decimal_by_steps, decimal_injective}
use Rattle.cqs_lines.specs.Said.{Lacks, IsCut, Said, said_text, tail_text, AreFit, IsSaid, Hears}

pub lacks-append : (at : ℕ) (xs ys : List ℕ) → Lacks at xs → Lacks at ys → Lacks at (xs ++ ys)
lacks-append at [] ys front back = back
lacks-append at (x ∷ xs) ys front back = (front.0, lacks-append at xs ys front.1 back)

pub lacks-not : (at : ℕ) (xs ys : List ℕ) → Lacks at (xs ++ at ∷ ys) → ⊥
lacks-not at [] ys lacks = lacks.0 refl
lacks-not at (x ∷ xs) ys lacks = lacks-not at xs ys lacks.1

head_of : (x y : ℕ) (xs ys : List ℕ) → x ∷ xs ≡ y ∷ ys → x ≡ y
head_of x y xs ys e = cc e

rest_of : (x y : ℕ) (xs ys : List ℕ) → x ∷ xs ≡ y ∷ ys → xs ≡ ys
rest_of x y xs ys e = cc e

-- there is one first place to cut at
pub cut-unique : (at : ℕ) (a b c d : List ℕ) → Lacks at a → Lacks at c → a ++ at ∷ b ≡ c ++ at ∷ d → (a ≡ c) × (b ≡ d)
cut-unique at [] b [] d first second same = (refl, rest_of at at b d same)
cut-unique at [] b (y ∷ c) d first second same = absurd (second.0 (sym (head_of at y b (c ++ at ∷ d) same)))
cut-unique at (x ∷ a) b [] d first second same = absurd (first.0 (head_of x at (a ++ at ∷ b) d same))
cut-unique at (x ∷ a) b (y ∷ c) d first second same =
    let more = cut-unique at a b c d first.1 second.1 (rest_of x y (a ++ at ∷ b) (c ++ at ∷ d) same) in
    (ap₂ (λ z zs. z ∷ zs) (head_of x y (a ++ at ∷ b) (c ++ at ∷ d) same) more.0, more.1)

-- a number in decimal has neither spaces nor line feeds
pub decimal-lacks : (at n : ℕ) → at < 48 → n < 2 ^ 64 → Lacks at (decimal n)
decimal-lacks at n low fit =
    decimal_by_steps (λ m ds. Lacks at ds)
    (λ m small. ((λ e. omega (arith, low, e)), tt))
    (λ m ds big rest. lacks-append at ds ((48 + m % 10) ∷ []) rest ((λ e. omega (arith, low, e)), tt))
    n fit

-- a text of numbers behind a space: none, or one and more
pub tail-cut : (m : ℕ) (ks : List ℕ) (rest : List ℕ) → m < 2 ^ 64 → 32 ∷ rest ≡ tail_text (m ∷ ks)
    → rest ≡ decimal m ++ tail_text ks
tail-cut m ks rest fit same = rest_of 32 32 rest (decimal m ++ tail_text ks) same

pub tail-append : (ns ks : List ℕ) → tail_text (ns ++ ks) ≡ tail_text ns ++ tail_text ks
tail-append [] ks = refl
tail-append (n ∷ ns) ks =
    ap (λ t. 32 ∷ (decimal n ++ t)) (tail-append ns ks)
    ∙ ap (λ t. 32 ∷ t) (sym (append_assoc (decimal n) (tail_text ns) (tail_text ks)))

pub fit-append : (ns ks : List ℕ) → AreFit ns → AreFit ks → AreFit (ns ++ ks)
fit-append [] ks front back = back
fit-append (n ∷ ns) ks front back = (front.0, fit-append ns ks front.1 back)

-- on the way through a text of numbers: these were read, and all that it can be goes through here
pub record Midway (text numbers rest : List ℕ) : Type 0 where
  pub so_far : 32 ∷ text ≡ tail_text numbers ++ 32 ∷ rest
  pub fit : AreFit numbers
  pub all : (ns : List ℕ) → AreFit ns → 32 ∷ text ≡ tail_text ns
      → (ks : List ℕ) × (AreFit ks) × (ns ≡ numbers ++ ks) × (32 ∷ rest ≡ tail_text ks)

pub midway-start : (text : List ℕ) → Midway text [] text
midway-start text = record { so_far = refl; fit = tt; all = λ ns fit same. (ns, fit, refl, same) }

-- what the first number of a text is, where the text is cut
pub first-word : (ks rest word after : List ℕ) → AreFit ks → 32 ∷ rest ≡ tail_text ks → IsCut 32 rest word after
    → (m : ℕ) × (more : List ℕ) × (ks ≡ m ∷ more) × (m < 2 ^ 64) × AreFit more × (word ≡ decimal m)
    × (32 ∷ after ≡ tail_text more)
first-word [] rest word after fit same is = absurd (cc same)
first-word (m ∷ []) rest word after fit same is =
    let text : rest ≡ decimal m = tail-cut m [] rest fit.0 same ∙ append-nil (decimal m) in
    absurd (lacks-not 32 word after (subst (λ t. Lacks 32 t) (sym text
    ∙ is.joined) (decimal-lacks 32 m (omega arith) fit.0)))
first-word (m ∷ n ∷ more) rest word after fit same is =
    let text : rest ≡ decimal m ++ tail_text (n ∷ more) = tail-cut m (n ∷ more) rest fit.0 same in
    let parts = cut-unique 32 word after (decimal m) (decimal n ++ tail_text more) is.first
    (decimal-lacks 32 m (omega arith) fit.0)
    (sym is.joined ∙ text) in
    (m, n ∷ more, refl, fit.0, fit.1, parts.0, ap (λ t. 32 ∷ t) parts.1)

pub midway-next : (text numbers rest word after : List ℕ) (n : ℕ) → Midway text numbers rest → IsCut 32 rest word after
    → word ≡ decimal n → n < 2 ^ 64 → Midway text (numbers ++ n ∷ []) after
midway-next text numbers rest word after n mid is value low = record {
  so_far =
      mid.so_far ∙ ap (λ t. tail_text numbers ++ 32 ∷ t) (is.joined ∙ ap (λ w. w ++ 32 ∷ after) value)
      ∙ sym (append_assoc (tail_text numbers) (32 ∷ decimal n) (32 ∷ after))
      ∙ ap (λ t. t ++ 32 ∷ after) (one ∙ sym (tail-append numbers (n ∷ [])));
  fit = fit-append numbers (n ∷ []) mid.fit (low, tt);
  all = λ ns fit same.
      let ks = mid.all ns fit same in
      let word_is = first-word ks.0 rest word after ks.1 ks.3 is in
      let here : word_is.0 ≡ n = decimal_injective word_is.0 n word_is.3 low (sym word_is.5 ∙ value) in (
        word_is.1,
        word_is.4,
        ks.2 ∙ ap (λ l. numbers ++ l) (word_is.2 ∙ ap (λ m. m ∷ word_is.1) here)
            ∙ sym (append_assoc numbers (n ∷ []) word_is.1),
        word_is.6,
      );
}
  where
    one : tail_text numbers ++ 32 ∷ decimal n ≡ tail_text numbers ++ tail_text (n ∷ [])
    one = ap (λ t. tail_text numbers ++ 32 ∷ t) (sym (append-nil (decimal n)))

pub midway-none : (text numbers rest word after : List ℕ) → Midway text numbers rest → IsCut 32 rest word after
    → ((n : ℕ) → n < 2 ^ 64 → word ≢ decimal n) → Hears text None
midway-none text numbers rest word after mid is none ns fit same =
    let ks = mid.all ns fit same in
    let word_is = first-word ks.0 rest word after ks.1 ks.3 is in
    none word_is.0 word_is.3 word_is.5

-- what the last number of a text is
pub last-word : (ks rest : List ℕ) → AreFit ks → 32 ∷ rest ≡ tail_text ks → Lacks 32 rest
    → (m : ℕ) × (m < 2 ^ 64) × (rest ≡ decimal m)
last-word [] rest fit same lacks = absurd (cc same)
last-word (m ∷ []) rest fit same lacks = (m, fit.0, tail-cut m [] rest fit.0 same ∙ append-nil (decimal m))
last-word (m ∷ n ∷ more) rest fit same lacks =
    absurd (lacks-not 32 (decimal m) (decimal n ++ tail_text more)
    (subst (λ t. Lacks 32 t) (tail-cut m (n ∷ more) rest fit.0 same) lacks))

pub midway-last : (text numbers rest : List ℕ) (n : ℕ) → Midway text numbers rest → rest ≡ decimal n → n < 2 ^ 64
    → Hears text (Some (numbers ++ n ∷ []))
midway-last text numbers rest n mid value low = (
  mid.so_far ∙ ap (λ t. tail_text numbers ++ 32 ∷ t) (value ∙ sym (append-nil (decimal n)))
      ∙ sym (tail-append numbers (n ∷ [])),
  fit-append numbers (n ∷ []) mid.fit (low, tt),
  omega (arith, length-append numbers (n ∷ [])),
)

pub midway-bad : (text numbers rest : List ℕ) → Midway text numbers rest → Lacks 32 rest
    → ((n : ℕ) → n < 2 ^ 64 → rest ≢ decimal n) → Hears text None
midway-bad text numbers rest mid lacks none ns fit same =
    let ks = mid.all ns fit same in
    let m = last-word ks.0 rest ks.1 ks.3 lacks in
    none m.0 m.1 m.2

-- a text says one list of numbers
pub tail-unique : (ns ms : List ℕ) → AreFit ns → AreFit ms → tail_text ns ≡ tail_text ms → ns ≡ ms
tail-unique [] [] first second same = refl
tail-unique [] (m ∷ ms) first second same = absurd (cc same)
tail-unique (n ∷ ns) [] first second same = absurd (cc same)
tail-unique (n ∷ []) (m ∷ []) first second same =
    ap (λ k. k ∷ []) (decimal_injective n m first.0 second.0
    (sym (append-nil (decimal n)) ∙ rest_of 32 32 (decimal n ++ []) (decimal m ++ []) same ∙ append-nil (decimal m)))
tail-unique (n ∷ []) (m ∷ k ∷ ms) first second same =
    let text : decimal n ≡ decimal m ++ tail_text (k ∷ ms)
    = sym (append-nil (decimal n)) ∙ rest_of 32 32 (decimal n ++ []) (decimal m ++ tail_text (k ∷ ms)) same in
    absurd (lacks-not 32 (decimal m) (decimal k ++ tail_text ms)
    (subst (λ t. Lacks 32 t) text (decimal-lacks 32 n (omega arith) first.0)))
tail-unique (n ∷ k ∷ ns) (m ∷ []) first second same =
    let text : decimal m ≡ decimal n ++ tail_text (k ∷ ns)
    = sym (append-nil (decimal m)) ∙ sym (rest_of 32 32 (decimal n ++ tail_text (k ∷ ns)) (decimal m ++ []) same) in
    absurd (lacks-not 32 (decimal n) (decimal k ++ tail_text ns)
    (subst (λ t. Lacks 32 t) text (decimal-lacks 32 m (omega arith) second.0)))
tail-unique (n ∷ k ∷ ns) (m ∷ l ∷ ms) first second same =
    let parts = cut-unique 32 (decimal n) (decimal k ++ tail_text ns) (decimal m) (decimal l ++ tail_text ms)
    (decimal-lacks 32 n (omega arith) first.0) (decimal-lacks 32 m (omega arith) second.0)
    (rest_of 32 32 (decimal n ++ tail_text (k ∷ ns)) (decimal m ++ tail_text (l ∷ ms)) same) in
    ap₂ (λ x xs. x ∷ xs) (decimal_injective n m first.0 second.0 parts.0)
    (tail-unique (k ∷ ns) (l ∷ ms) first.1 second.1 (ap (λ t. 32 ∷ t) parts.1))

-- a line with no space says nothing
pub spaceless : (line : List ℕ) (s : Said) → Lacks 32 line → IsSaid line s → ⊥
spaceless line s lacks is = go s.verb s.numbers is.text is.some
  where
    go : (verb ns : List ℕ) → line ≡ verb ++ tail_text ns → 0 < length ns → ⊥
    go verb [] same some = omega (arith, some)
    go verb (n ∷ ns) same some = lacks-not 32 verb (decimal n ++ tail_text ns) (subst (λ t. Lacks 32 t) same lacks)

-- a line that is cut says a verb, and the numbers behind it
pub said-cut : (line verb rest : List ℕ) (s : Said) → IsCut 32 line verb rest → IsSaid line s
    → (s.verb ≡ verb) × (32 ∷ rest ≡ tail_text s.numbers)
said-cut line verb rest s cut is = go s.numbers is.text is.some
  where
    go : (ns : List ℕ) → line ≡ s.verb ++ tail_text ns → 0 < length ns → (s.verb ≡ verb) × (32 ∷ rest ≡ tail_text ns)
    go [] same some = absurd (omega (arith, some))
    go (n ∷ ns) same some =
        let parts = cut-unique 32 s.verb (decimal n ++ tail_text ns) verb rest is.verb cut.first (sym same
        ∙ cut.joined) in
        (parts.0, ap (λ t. 32 ∷ t) (sym parts.1))

pub unheard : (line verb rest : List ℕ) → IsCut 32 line verb rest → Hears rest None → (s : Said) → ¬ IsSaid line s
unheard line verb rest cut none s is = none s.numbers is.fit (said-cut line verb rest s cut is).1

pub heard : (line verb rest ns : List ℕ) → IsCut 32 line verb rest → Hears rest (Some ns)
    → IsSaid line (record { verb = verb; numbers = ns })
heard line verb rest ns cut hears = record {
  text = cut.joined ∙ ap (λ t. verb ++ t) hears.0;
  verb = cut.first;
  fit = hears.1;
  some = hears.2;
}

-- a line says one thing
pub said-unique : (line : List ℕ) (s t : Said) → IsSaid line s → IsSaid line t → s ≡ t
said-unique line s t first second = go s.numbers first.text first.some
  where
    go : (ns : List ℕ) → line ≡ s.verb ++ tail_text ns → 0 < length ns → s ≡ t
    go [] same some = absurd (omega (arith, some))
    go (n ∷ ns) same some =
        let cut : IsCut 32 line s.verb (decimal n ++ tail_text ns) = record { joined = same; first = first.verb } in
        let mine = said-cut line s.verb (decimal n ++ tail_text ns) s cut first in
        let theirs = said-cut line s.verb (decimal n ++ tail_text ns) t cut second in
        let numbers : s.numbers ≡ t.numbers =
        tail-unique s.numbers t.numbers first.fit second.fit (sym mine.1 ∙ theirs.1) in
        ap₂ (λ v ms. record { verb = v; numbers = ms }) (sym theirs.0) numbers

-- where no byte is the one that was looked for
pub nowhere-lacks : (at : ℕ) (bytes : List ℕ) → ((k : ℕ) → k < length bytes → (slice_index bytes k == at) ≡ true → ⊥)
    → Lacks at bytes
nowhere-lacks at [] none = tt
nowhere-lacks at (b ∷ bytes) none =
    ((λ e. none 0 (omega arith) (eq-eqb b at e)), nowhere-lacks at bytes (λ k low. none (suc k) (omega (arith, low))))

-- where one is, at a place, and none before
pub place-cut : (at : ℕ) (bytes : List ℕ) (place n : ℕ) → n ≡ suc place → place < length bytes
    → ((k : ℕ) → k < place → (slice_index bytes k == at) ≡ true → ⊥) → (slice_index bytes place == at) ≡ true
    → IsCut at bytes (take place bytes) (drop n bytes)
place-cut at [] place n next low none here = absurd (omega (arith, low))
place-cut at (b ∷ bytes) place zero next low none here = absurd (omega (arith, next))
place-cut at (b ∷ bytes) zero (suc n) next low none here =
    let zero_is : n ≡ 0 = omega (arith, next) in
    record { joined = ap₂ (λ x xs. x ∷ xs) (eqb-true b at here) (rw zero_is refl); first = tt }
place-cut at (b ∷ bytes) (suc place) (suc n) next low none here =
    let rest = place-cut at bytes place n (omega (arith, next)) (omega (arith, low))
    (λ k small. none (suc k) (omega (arith, small))) here in
    record {
      joined = ap (λ t. b ∷ t) rest.joined;
      first = ((λ e. none 0 (omega arith) (eq-eqb b at e)), rest.first);
    }
