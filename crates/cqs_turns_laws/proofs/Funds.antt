-- What one deed does to the funds of a resource: what is free there, what is held, and who may claim it.
use Rattle.std.proofs.Common.{◌≡◌, ◌≢◌, ℕ, ◌+◌, ◌<◌, ◌≤◌, ◌==◌, Bool, true, false, [], refl, sym, subst, arith}
use Rattle.cqs_core.specs.SemaphoreObject.{Semaphore}
use Rattle.cqs_core.proofs.Counts.{bit}
use Rattle.cqs_pool_object.specs.PoolObject.{Pool}
use Rattle.cqs_plan.specs.FloorHistory.{History, of_permits, of_elements, of_latch, of_rounds, takes, joins, frees, sends, gets, leaves, is_late, permits_after, elements_after, with_deed, standing, first_free}
use Rattle.cqs_turns_laws.proofs.DeedParts.{is_of_pool}
use Rattle.cqs_turns_laws.proofs.Deeds.{elements-then, permits-then}
use Rattle.cqs_turns_laws.proofs.ElementFunds.{AreElementFunds, element-taken, element-joined, element-freed, element-sent, element-got, element-late, element-left, element-same}
use Rattle.cqs_turns_laws.proofs.PermitFunds.{ArePermitFunds, funds-taken, funds-joined, funds-freed, funds-sent, funds-left, funds-same}

-- an element counts as itself, and a permit as any
abbrev pub counts : Bool → ℕ → ℕ → Bool
counts true x e = e == x
counts false x e = true

-- by what the jobs hold and what came to their waits, of each element
abbrev pub AreFunds : ℕ → History → (ℕ → ℕ) → (ℕ → ℕ) → Type 0
AreFunds size (of_permits entries) holds claims =
    (x : ℕ) → ArePermitFunds size (permits_after size entries) (holds x) (claims x)
AreFunds size (of_elements entries) holds claims =
    AreElementFunds size (elements_after size entries) holds claims
AreFunds size (of_latch entries) holds claims = Unit {0}
AreFunds size (of_rounds all) holds claims = Unit {0}

module _ (size : ℕ) (holds claims holds' claims' : ℕ → ℕ) where
  pub takes-funds : (h : History) → 0 < (standing size h).free
      → ((x : ℕ) → holds' x ≡ holds x + bit (counts (is_of_pool h) x (first_free size h)))
      → ((x : ℕ) → claims' x ≤ claims x) → AreFunds size h holds claims
      → AreFunds size (with_deed size h (takes (first_free size h))) holds' claims'
  takes-funds (of_permits entries) some more fewer funds =
      λ x.
      let o : Semaphore = permits_after size entries in
      let Fund : Semaphore → Type 0 = λ p. ArePermitFunds size p (holds' x) (claims' x) in
      subst Fund (sym (permits-then size entries (takes 0)))
      (funds-same size _ (holds' x) (claims x) (holds' x) (claims' x) refl (fewer x)
      (funds-taken size o (holds x) (claims x) (holds' x) some (more x) (funds x)))
  takes-funds (of_elements entries) some more fewer funds =
      let Fund : Pool → Type 0 = λ p. AreElementFunds size p holds' claims' in
      subst Fund (sym (elements-then size entries (takes (first_free size (of_elements entries)))))
      (element-taken size (elements_after size entries) holds claims holds' claims' funds some more fewer)
  takes-funds (of_latch entries) some more fewer funds = tt
  takes-funds (of_rounds all) some more fewer funds = tt

  pub joins-funds : (h : History) (k : ℕ) → (standing size h).free ≡ 0 → ((x : ℕ) → holds' x ≡ holds x)
      → ((x : ℕ) → claims' x ≤ claims x) → AreFunds size h holds claims
      → AreFunds size (with_deed size h (joins k)) holds' claims'
  joins-funds (of_permits entries) k none same fewer funds =
      λ x.
      let o : Semaphore = permits_after size entries in
      let Fund : Semaphore → Type 0 = λ p. ArePermitFunds size p (holds' x) (claims' x) in
      subst Fund (sym (permits-then size entries (joins k)))
      (funds-same size _ (holds x) (claims' x) (holds' x) (claims' x) (same x) (omega arith)
      (funds-joined size o (holds x) (claims x) (claims' x) k none (fewer x) (funds x)))
  joins-funds (of_elements entries) k none same fewer funds =
      let Fund : Pool → Type 0 = λ p. AreElementFunds size p holds' claims' in
      subst Fund (sym (elements-then size entries (joins k)))
      (element-joined size (elements_after size entries) holds claims holds' claims' funds k none same fewer)
  joins-funds (of_latch entries) k none same fewer funds = tt
  joins-funds (of_rounds all) k none same fewer funds = tt

  pub frees-funds : (h : History) (e : ℕ) → (standing size h).line ≡ []
      → ((x : ℕ) → holds' x + bit (counts (is_of_pool h) x e) ≡ holds x)
      → ((x : ℕ) → claims' x ≤ claims x) → AreFunds size h holds claims
      → AreFunds size (with_deed size h (frees e)) holds' claims'
  frees-funds (of_permits entries) e empty gone fewer funds =
      λ x.
      let o : Semaphore = permits_after size entries in
      let Fund : Semaphore → Type 0 = λ p. ArePermitFunds size p (holds' x) (claims' x) in
      subst Fund (sym (permits-then size entries (frees e)))
      (funds-same size _ (holds' x) (claims x) (holds' x) (claims' x) refl (fewer x)
      (funds-freed size o (holds x) (claims x) (holds' x) empty (gone x) (funds x)))
  frees-funds (of_elements entries) e empty gone fewer funds =
      let Fund : Pool → Type 0 = λ p. AreElementFunds size p holds' claims' in
      subst Fund (sym (elements-then size entries (frees e)))
      (element-freed size (elements_after size entries) holds claims holds' claims' funds e gone empty fewer)
  frees-funds (of_latch entries) e empty gone fewer funds = tt
  frees-funds (of_rounds all) e empty gone fewer funds = tt

  pub sends-funds : (h : History) (e k : ℕ) → (standing size h).line ≢ []
      → ((x : ℕ) → holds' x + bit (counts (is_of_pool h) x e) ≡ holds x)
      → ((x : ℕ) → claims' x ≤ claims x + bit (counts (is_of_pool h) x e)) → AreFunds size h holds claims
      → AreFunds size (with_deed size h (sends e k)) holds' claims'
  sends-funds (of_permits entries) e k some gone more funds =
      λ x.
      let o : Semaphore = permits_after size entries in
      let Fund : Semaphore → Type 0 = λ p. ArePermitFunds size p (holds' x) (claims' x) in
      subst Fund (sym (permits-then size entries (sends e k)))
      (funds-sent size o (holds x) (claims x) (holds' x) (claims' x) k some (gone x) (more x) (funds x))
  sends-funds (of_elements entries) e k some gone more funds =
      let Fund : Pool → Type 0 = λ p. AreElementFunds size p holds' claims' in
      subst Fund (sym (elements-then size entries (sends e k)))
      (element-sent size (elements_after size entries) holds claims holds' claims' funds e gone k some more)
  sends-funds (of_latch entries) e k some gone more funds = tt
  sends-funds (of_rounds all) e k some gone more funds = tt

  -- what came for a wait is the job's, or a wait is gone
  module _ (more : (x : ℕ) → holds' x + claims' x ≤ holds x + claims x) where
    permits-less : (o : Semaphore) (x : ℕ) → ArePermitFunds size o (holds x) (claims x)
        → ArePermitFunds size o (holds' x) (claims' x)
    permits-less o x funds = record {
      way = funds.way;
      door = funds.door;
      unbroken = funds.unbroken;
      eager = funds.eager;
      total = funds.total;
      backed = omega (arith, funds.backed, more x);
    }

    pub same-funds : (h : History) → AreFunds size h holds claims → AreFunds size h holds' claims'
    same-funds (of_permits entries) funds = λ x. permits-less (permits_after size entries) x (funds x)
    same-funds (of_elements entries) funds =
        element-same size (elements_after size entries) holds claims holds' claims' funds more
    same-funds (of_latch entries) funds = tt
    same-funds (of_rounds all) funds = tt

    pub gets-funds : (h : History) (k e : ℕ) → AreFunds size h holds claims
        → AreFunds size (with_deed size h (gets k e)) holds' claims'
    gets-funds (of_permits entries) k e funds =
        λ x.
        let o : Semaphore = permits_after size entries in
        let Fund : Semaphore → Type 0 = λ p. ArePermitFunds size p (holds' x) (claims' x) in
        let less = permits-less o x (funds x) in
        subst Fund (sym (permits-then size entries (gets k e)))
        (record {
          way = less.way;
          door = less.door;
          unbroken = less.unbroken;
          eager = less.eager;
          total = less.total;
          backed = less.backed;
        })
    gets-funds (of_elements entries) k e funds =
        let Fund : Pool → Type 0 = λ p. AreElementFunds size p holds' claims' in
        subst Fund (sym (elements-then size entries (gets k e)))
        (element-got size (elements_after size entries) holds claims holds' claims' funds more k e)
    gets-funds (of_latch entries) k e funds = tt
    gets-funds (of_rounds all) k e funds = tt

    pub late-funds : (h : History) (k e : ℕ) → AreFunds size h holds claims
        → AreFunds size (with_deed size h (is_late k e)) holds' claims'
    late-funds (of_permits entries) k e funds =
        λ x.
        let o : Semaphore = permits_after size entries in
        let Fund : Semaphore → Type 0 = λ p. ArePermitFunds size p (holds' x) (claims' x) in
        let less = permits-less o x (funds x) in
        subst Fund (sym (permits-then size entries (is_late k e)))
        (record {
          way = less.way;
          door = less.door;
          unbroken = less.unbroken;
          eager = less.eager;
          total = less.total;
          backed = less.backed;
        })
    late-funds (of_elements entries) k e funds =
        let Fund : Pool → Type 0 = λ p. AreElementFunds size p holds' claims' in
        subst Fund (sym (elements-then size entries (is_late k e)))
        (element-late size (elements_after size entries) holds claims holds' claims' funds more k e)
    late-funds (of_latch entries) k e funds = tt
    late-funds (of_rounds all) k e funds = tt

    pub leaves-funds : (h : History) (k : ℕ) → AreFunds size h holds claims
        → AreFunds size (with_deed size h (leaves k)) holds' claims'
    leaves-funds (of_permits entries) k funds =
        λ x.
        let o : Semaphore = permits_after size entries in
        let Fund : Semaphore → Type 0 = λ p. ArePermitFunds size p (holds' x) (claims' x) in
        subst Fund (sym (permits-then size entries (leaves k)))
        (funds-left size o (holds' x) (claims' x) (claims' x) k (omega arith) (permits-less o x (funds x)))
    leaves-funds (of_elements entries) k funds =
        let Fund : Pool → Type 0 = λ p. AreElementFunds size p holds' claims' in
        subst Fund (sym (elements-then size entries (leaves k)))
        (element-left size (elements_after size entries) holds claims holds' claims' funds more k)
    leaves-funds (of_latch entries) k funds = tt
    leaves-funds (of_rounds all) k funds = tt
