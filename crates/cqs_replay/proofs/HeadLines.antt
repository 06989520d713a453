-- Lines that are heads: what a line says before its last word, and that it is the line of one head.
use Rattle.std.proofs.Common.{◌≡◌, ◌≢◌, ◌⊎◌, inl, inr, ℕ, ◌+◌, ◌<◌, ◌≤◌, ◌^◌, ◌%◌, Bool, true, false, List, [], ◌∷◌, ◌++◌, length, Option, Some, None, Result, Ok, Err, IfOk, refl, sym, ap, ap₂, ◌∙◌, subst, arith, decimal, codes, append_assoc, append-nil, length-append}
use Rattle.std.proofs.lemmas.Bool.{cases_Bool}
use Rattle.std.proofs.lemmas.Fmt.{decimal_by_steps}
use Rattle.cqs_core.specs.declared.events.Event.{Event}
use Rattle.cqs_lines.specs.Said.{Lacks, IsCut, Said, said, said_text, tail_text, IsSaid, IsLine}
use Rattle.cqs_lines.specs.Forms.{lines_text, AreItems, IsFirstBad}
use Rattle.cqs_lines.proofs.Reading.{line-whole, line-said, lines-many}
use Rattle.cqs_lines.proofs.Texts.{lacks-append, lacks-not, cut-unique, said-unique}
use Rattle.cqs_lines.proofs.Verbs.{lacks-true, line-passes}
use Rattle.cqs_replay.specs.declared.heads.Head.{Head}
use Rattle.cqs_replay.specs.EventLines.{event_says, IsEvent}
use Rattle.cqs_replay.specs.Schedules.{head_says, kind_text, head_line, head_text, IsHead, IsHeadOf, IsSized, IsHeard, IsHeadless, IsFirstBadLine}

pub head-is-line : (head : Head) → IsHead head → IsLine (head_says head)
head-is-line head fit = line-passes
    (codes "core") head.permits head.passes refl refl fit.most fit.few

kind-whole : (sync : Bool) → Lacks 10 (kind_text sync)
kind-whole true = lacks-true 10 (codes " sync") refl
kind-whole false = tt

pub head-whole : (head : Head) → IsHead head → Lacks 10 (head_line head)
head-whole head fit =
    lacks-append 10 (said_text (head_says head)) (kind_text head.sync)
    (line-whole (head_says head) (head-is-line head fit))
    (kind-whole head.sync)

-- no letter stands in a number
letterless : (letter n : ℕ) → 57 < letter → n < 2 ^ 64 → Lacks letter (decimal n)
letterless letter n high fit =
    decimal_by_steps (λ m ds. Lacks letter ds)
    (λ m small. ((λ e. omega (arith, high, small, e)), tt))
    (λ m ds big rest. lacks-append letter ds ((48 + m % 10) ∷ []) rest ((λ e. omega (arith, high, e)), tt))
    n fit

sizes-lack : (head : Head) → IsHead head → Lacks 115 (said_text (head_says head))
sizes-lack head fit =
    let passes : Lacks 115 (tail_text (head.passes ∷ [])) = (
      (λ e. absurd (omega (arith, e))),
      lacks-append 115 (decimal head.passes) [] (letterless 115 head.passes (omega arith) (omega (arith, fit.few))) tt,
    ) in
    let permits : Lacks 115 (tail_text (head.permits ∷ head.passes ∷ [])) = (
      (λ e. absurd (omega (arith, e))),
      lacks-append 115 (decimal head.permits) (tail_text (head.passes ∷ []))
          (letterless 115 head.permits (omega arith) (omega (arith, fit.most))) passes,
    ) in
    lacks-append 115 (codes "core") (tail_text (head.permits ∷ head.passes ∷ []))
    (lacks-true 115 (codes "core") refl) permits

-- so the line of a core that isn't synchronous has no such last word
kinds-apart : (head : Head) (front : List ℕ) → IsHead head → said_text (head_says head) ≡ front ++ codes " sync" → ⊥
kinds-apart head front fit same =
    lacks-not 115 (front ++ 32 ∷ []) (codes "ync")
    (subst (λ t. Lacks 115 t) (same ∙ sym (append_assoc front (32 ∷ []) (codes "sync"))) (sizes-lack head fit))

-- a last word that two texts have in common may be left out
same-front : (xs ys back : List ℕ) → xs ++ back ≡ ys ++ back → xs ≡ ys
same-front [] [] back same = refl
same-front [] (y ∷ ys) back same =
    let long : length back ≡ length ((y ∷ ys) ++ back) = ap length same in
    absurd (omega (arith, long, length-append (y ∷ ys) back))
same-front (x ∷ xs) [] back same =
    let long : length ((x ∷ xs) ++ back) ≡ length back = ap length same in
    absurd (omega (arith, long, length-append (x ∷ xs) back))
same-front (x ∷ xs) (y ∷ ys) back same =
    let first : x ≡ y = cc same in
    let rest : xs ++ back ≡ ys ++ back = cc same in
    ap₂ (λ z zs. z ∷ zs) first (same-front xs ys back rest)

line-of : (head : Head) (sync : Bool) → head.sync ≡ sync → head_line head ≡ said_text (head_says head) ++ kind_text sync
line-of head sync is = ap (λ b. said_text (head_says head) ++ kind_text b) is

plain-line : (head : Head) → head.sync ≡ false → head_line head ≡ said_text (head_says head)
plain-line head is = line-of head false is ∙ append-nil (said_text (head_says head))

-- what the words say is what the line says
pub sized-heard : (line verb numbers : List ℕ) (sync : Bool) (r : Option Head) → IsSaid line (said verb numbers)
    → IsHeadOf verb numbers sync r → IsSized line sync r
sized-heard line verb numbers sync None is none = λ head fit same.
    none head fit (said-unique line (head_says head) (said verb numbers)
    (line-said line (head_says head) (head-is-line head fit) same) is)
sized-heard line verb numbers sync (Some head) is of = (of.0, is.text ∙ ap said_text (sym of.1), of.2)

pub sized-unheard : (line : List ℕ) (sync : Bool) → ((s : Said) → ¬ IsSaid line s) → IsSized line sync None
sized-unheard line sync none = λ head fit same.
    none (head_says head) (line-said line (head_says head) (head-is-line head fit) same)

-- a line with the last word, and one without it
pub heard-sync : (line before : List ℕ) (r : Option Head) → line ≡ before ++ codes " sync" → IsSized before true r
    → IsHeard line r
heard-sync line before None is none = λ head fit same. go head fit same (cases_Bool head.sync)
  where
    go : (head : Head) → IsHead head → line ≡ head_line head → (head.sync ≡ true) ⊎ (head.sync ≡ false) → ⊥
    go head fit same (inl sync) =
        none head fit (same-front before (said_text (head_says head)) (codes " sync")
        (sym is ∙ same ∙ line-of head true sync))
    go head fit same (inr plain) = kinds-apart head before fit (sym (plain-line head plain) ∙ sym same ∙ is)
heard-sync line before (Some head) is sized =
    (sized.0, is ∙ ap (λ t. t ++ codes " sync") sized.1 ∙ sym (line-of head true sized.2))

pub heard-plain : (line : List ℕ) (r : Option Head) → ((before : List ℕ) → line ≢ before ++ codes " sync")
    → IsSized line false r → IsHeard line r
heard-plain line None wordless none = λ head fit same. go head fit same (cases_Bool head.sync)
  where
    go : (head : Head) → IsHead head → line ≡ head_line head → (head.sync ≡ true) ⊎ (head.sync ≡ false) → ⊥
    go head fit same (inl sync) = wordless (said_text (head_says head)) (same ∙ line-of head true sync)
    go head fit same (inr plain) = none head fit (same ∙ plain-line head plain)
heard-plain line (Some head) wordless sized = (sized.0, sized.1 ∙ sym (plain-line head sized.2))

-- the head of a text stands in its first line
pub endless-head : (text : List ℕ) → Lacks 10 text → IsHeadless text
endless-head text lacks = λ head more fit same. lacks-not 10 (head_line head) more (subst (λ t. Lacks 10 t) same lacks)

pub unheard-head : (text line after : List ℕ) → IsCut 10 text line after → IsHeard line None → IsHeadless text
unheard-head text line after cut none = λ head more fit same.
    let parts = cut-unique 10 line after (head_line head) more cut.first (head-whole head fit)
    (sym cut.joined ∙ same) in
    none head fit parts.0

pub heard-text : (text line after : List ℕ) (head : Head) → IsCut 10 text line after → IsHeard line (Some head)
    → IsHead head × (text ≡ head_text head after)
heard-text text line after head cut heard = (heard.0, cut.joined ∙ ap (λ l. l ++ 10 ∷ after) heard.1)

-- behind a head there is less
pub head-long : (head : Head) (text more : List ℕ) → text ≡ head_text head more → length more + 2 ≤ length text
head-long head text more same =
    let whole : length text ≡ length (head_line head ++ 10 ∷ more) = ap length same in
    let behind = length-append (head_line head) (10 ∷ more) in
    let line = length-append (said_text (head_says head)) (kind_text head.sync) in
    let said = length-append (codes "core") (tail_text (head.permits ∷ head.passes ∷ [])) in
    omega (arith, whole, behind, line, said)

-- a text has no more events than bytes
pub events-many : (head : Head) (text more : List ℕ) (items : List Event) → text ≡ head_text head more
    → AreItems event_says IsEvent items more → length items ≤ length text
events-many head text more items same are =
    let long = head-long head text more same in
    let whole : length more ≡ length (lines_text event_says items []) = ap length are.text_is in
    omega (arith, long, whole, lines-many event_says IsEvent items [])

-- the first line behind a head that says no event is the first bad one
pub behind-head-bad : (head : Head) (text more : List ℕ) (n : ℕ) → IsHead head → text ≡ head_text head more
    → IsFirstBad event_says IsEvent more 2 n → IsFirstBadLine text n
behind-head-bad head text more n fit same bad =
    inr (record { head = head; rest = more; head_fit = fit; text_is = same; bad = bad })

-- what is told of a line that was heard
pub all-heard : {E : Type 0} (P Q : Option Head → Type 0) (r : Result (Option Head) E)
    → ((heard : Option Head) → P heard → Q heard) → IfOk r P → IfOk r Q
all-heard P Q (Ok heard) each is = each heard is
all-heard P Q (Err e) each is = tt

-- two heads in front of one text are the same
sizes-unique : (head other : Head) → IsHead head → IsHead other
    → said_text (head_says head) ≡ said_text (head_says other)
    → head_says head ≡ head_says other
sizes-unique head other first second same =
    said-unique (said_text (head_says head)) (head_says head) (head_says other)
    (line-said (said_text (head_says head)) (head_says head) (head-is-line head first) refl)
    (line-said (said_text (head_says head)) (head_says other) (head-is-line other second) same)

pub heads-unique : (head other : Head) (more rest : List ℕ) → IsHead head → IsHead other
    → head_text head more ≡ head_text other rest
    → (head_says head ≡ head_says other) × (head.sync ≡ other.sync) × (more ≡ rest)
heads-unique head other more rest first second same =
    let parts = cut-unique 10 (head_line head) more (head_line other) rest (head-whole head first)
    (head-whole other second) same in
    let both = go (cases_Bool head.sync) (cases_Bool other.sync) parts.0 in
    (both.0, both.1, parts.1)
  where
    go : (head.sync ≡ true) ⊎ (head.sync ≡ false) → (other.sync ≡ true) ⊎ (other.sync ≡ false)
        → head_line head ≡ head_line other
        → (head_says head ≡ head_says other) × (head.sync ≡ other.sync)
    go (inl a) (inl b) line =
        let fronts = same-front (said_text (head_says head)) (said_text (head_says other)) (codes " sync")
        (sym (line-of head true a) ∙ line ∙ line-of other true b) in
        (sizes-unique head other first second fronts, a ∙ sym b)
    go (inr a) (inr b) line =
        (sizes-unique head other first second (sym (plain-line head a) ∙ line ∙ plain-line other b), a ∙ sym b)
    go (inl a) (inr b) line =
        absurd (kinds-apart other (said_text (head_says head)) second
        (sym (plain-line other b) ∙ sym line ∙ line-of head true a))
    go (inr a) (inl b) line =
        absurd (kinds-apart head (said_text (head_says other)) first
        (sym (plain-line head a) ∙ line ∙ line-of other true b))
