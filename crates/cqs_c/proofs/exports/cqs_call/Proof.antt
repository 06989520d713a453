-- The export tests the pointer, and calls with the primitive that lies there.
use Rattle.std.proofs.Common.{◌≡◌, ℕ, ◌+◌, ◌*◌, ◌^◌, ◌<◌, List, [], ◌∷◌, refl, lit<, w32, w64, Bor}
use seplogic.Ra.Ura.{Ura}
use mir.Val.{Val, vint, vptr, vnull}
use base.Logic.{SProp, ent, sep, id⊢, ex_e, snd∗}
use base.Fml.{Lft, Share, ftrue, flft}
use prog.Memory.{Memory}
use prog.Routine.{Routine}
use prog.Wp.{Calls, Loops, WpFn, Tables}
use types.Logic.{Logic, sem}
use contract.Monad.{Fun, fact}
use contract.Running.{tables, tables_of}
use types.Kit.{‵, raw, ◌⊛◌, some, later, at_ret, ◌$◌, ◌∵◌, !, qed, move, keep, drop, use1, split, join, pick, fsplit, fjoin, feq_i, suffices, await, group, frame, done}
use types.Run.{and_then, no_more, returns, returns_within, enter, of_opd, lit, bin, addr, stop, first, branches, skips, exec}
use types.ByLocal.{alloc_all, pass_all, free_all, look_at, get, through, sets, lands_as, env}
use sound.WpLaws.{FmC, fm_of, WpFn-mono}
use denote.Exit.{yes}
use denote.Laws.{Is, shows}
use denote.Plain.{uint_vals, uint_Tells, uint_Makes}
use denote.Builtin.{u32, u64}
use denote.Opens.{hide}
use denote.RawPtr.{Ptr, block_ptr, null_ptr, RawPtr, rawptr_vals, rawptr_Tells, ptr_val, Testable, tests_null}
use denote.Signature.{plain}
use denote.Steps.{owned, peeks, heard, nothing}
use denote.Struct.Lending.{lent_at}
use denote.Triple.Statement.{Contract, Triple}
use denote.Triple.Call.{calls_at}
use denote.Triple.Clauses.{Clauses, ensured, lasts}
use denote.Triple.Entry.{on_entry}
use denote.Triple.Spec.{Meets, triple_of}
use denote.Triple.Table.{entered}
use denote.Triple.Walked.{Stays, stay_dropped, walk_of, Goes-dropped, says, ends_at, walked, walk_Meets}
use Rattle.std.specs.Ptr.{if_non_null}
use Rattle.cqs_c_numbers.specs.contracts.numbered.Numbered.{the_row as R}
use Rattle.cqs_c.specs.contracts.answers.CqsAnswer.{the_row as A, the_type}
use denote.Struct.Laws.{lawful}
use Rattle.cqs_c.proofs.answers.CqsAnswer.TheLaws.{the_laws}
use Rattle.cqs_c.specs.Answers.{no_object}
use Rattle.cqs_c.specs.contracts.answers.nowhere as none
use Rattle.cqs_c.proofs.answers.nowhere.Symbol.{name as #none}
use Rattle.cqs_c.proofs.answers.nowhere.Met as none_thm
use Rattle.cqs_c.specs.contracts.calls.call as of
use Rattle.cqs_c.proofs.calls.call.Symbol.{name as #of}
use Rattle.cqs_c.proofs.calls.call.Met as of_thm
use Rattle.cqs_c.specs.contracts.exports.cqs_call.Key.{name as key}
use Rattle.cqs_c.specs.contracts.exports.cqs_call as f
use Rattle.cqs_c.proofs.exports.cqs_call.Statement as stated
use Rattle.cqs_c.proofs.exports.cqs_call.Code as code

abbrev stayed : Stays (f.ended).signature.params (f.ended).kept
stayed = (
  stay_dropped (plain (λ _. RawPtr)) yes,
  (
    stay_dropped (plain (λ _. u32)) yes,
    (
      stay_dropped (plain (λ _. u32)) yes,
      (stay_dropped (plain (λ _. u64)) yes, tt),
    ),
  ),
)

module _ {M : Type 1} {𝓤 : Ura M} (𝓛 : Logic 𝓤) (at_mem : Memory → SProp 𝓤) (run : Routine → Fun 𝓤) where
  abbrev Of : Contract 𝓤
  Of = triple_of 𝓛 of.signature (of.spec 𝓛 at_mem run)

  abbrev None : Contract 𝓤
  None = triple_of 𝓛 none.signature (none.spec 𝓛 at_mem run)

  abbrev c : Clauses 𝓤 f.ended
  c = f.clauses 𝓛 at_mem run

  module _ (C : Calls 𝓤 𝓛.H) (Λ : Loops 𝓤 𝓛.H) (fm' : FmC 𝓤 𝓛.H 𝓛.laws C) (known : Triple 𝓤 (C #of) Of)
      (none_known : Triple 𝓤 (C #none) None) (j : ℕ) (fj : j < 2 ^ 32) (n : ℕ) (fn : n < 2 ^ 32)
      (m : ℕ) (fm : m < 2 ^ 64)
      (x : R.Denot) (κ : Lft) (q : Share) where
    abbrev y : Ptr → (walk_of 𝓛 f.ended stayed c).Ghost
    y p = (
      (
        tt,
        tt,
        tt,
        (p, (j, (n, (m, tt)))),
        (rawptr_vals p, (vint w32 j ∷ [], (vint w32 n ∷ [], (vint w64 m ∷ [], tt)))),
      ),
      (x, κ, q),
    )

    abbrev Post : Ptr → Val → SProp 𝓤
    Post p = (walk_of 𝓛 f.ended stayed c).post (y p)

    abbrev Entry : Ptr → SProp 𝓤
    Entry p = on_entry 𝓛 f.signature tt tt (p, (j, (n, (m, tt))))
        (rawptr_vals p, (vint w32 j ∷ [], (vint w32 n ∷ [], (vint w64 m ∷ [], tt))))

    -- what the export is given beside what its parameters own
    abbrev Given : Ptr → SProp 𝓤
    Given p = sep 𝓤 (fact 𝓤 (Testable p)) (sep 𝓤 (sem 𝓛 (if_non_null p (lent_at R p x κ))) (sem 𝓛 (flft κ q)))

    runs : (p : Ptr) → ent 𝓤 (sep 𝓤 (Entry p) (Given p))
        (WpFn 𝓤 𝓛.H C Λ code.function (ptr_val p ∷ vint w32 j ∷ vint w32 n ∷ vint w64 m ∷ []) (Post p))
    runs null_ptr =
        let z : None.Ghost = ((tt, tt, tt, tt, tt), tt) in
        qed 𝓛 (raw (Entry null_ptr) ∷ (raw (fact 𝓤 (Testable null_ptr)) ⊛ ‵ ftrue ⊛ ‵ (flft κ q)) ∷ []) ∵
        drop ! $ split ! $ heard ! (Testable null_ptr) (λ may. split ! $ drop ! $
        -- [the token]
        enter ! C Λ code.function (vnull ∷ vint w32 j ∷ vint w32 n ∷ vint w64 m ∷ []) _ $
        alloc_all ! (λ l. pass_all ! refl (
          (tt, record { fits = lit< tt }),
          (
            (tt, record { fits = fj }),
            (
              (tt, record { fits = fn }),
              ((tt, record { fits = fm }), tt),
            ),
          ),
        ) $
        sets ! (bin ! (get ! refl) (lit ! tt) (tests_null null_ptr may)) refl (tt, tt) $
        first ! $ branches ! (get ! refl)
        (λ t. nothing ! $ nothing ! $ nothing ! $ join ! $ join ! $
        use1 𝓛 (raw (None.pre z)) (id⊢ 𝓤 _) $
        calls_at ! fm' None none_known z (no_more !) (λ v.
        use1 𝓛 (later (some (λ (d : A.Denot). (‵ ftrue ⊛ ‵ (A.own_val d (v ∷ [])))
        ⊛ raw (ensured 𝓛 none.ended (none.clauses 𝓛 at_mem run) tt tt tt d))))
        (id⊢ 𝓤 _) $ await ! tt $ pick ! (λ d.
        split ! $ move ! (1 ∷ []) $
        use1 𝓛 (raw (fact 𝓤 (d ≡ no_object)))
        (ex_e 𝓤 _ (λ ws. snd∗ 𝓤 (sem 𝓛 (lasts none.ended tt tt ws)) _)) $
        heard ! (d ≡ no_object) (λ is_none. split ! $ drop ! $
        peeks ! A (Is A) (shows 𝓛 A) d (v ∷ []) (λ is.
        lands_as ! refl refl ((lawful the_type the_laws 𝓛).typed d _ is).0 $
        returns_within ! (Post null_ptr) refl (look_at ! 0 refl) $ free_all ! refl $
        suffices ! _
        (ends_at 𝓛 f.ended stayed c (y null_ptr) v d (tt, (tt, (tt, (tt, tt)))) (tt, (tt, (tt, (tt, tt))))) $
        nothing ! $ nothing ! $ join ! $ nothing ! $ join ! $ nothing ! $ join ! $ nothing ! $ join ! $ nothing ! $
        group ! 3 $ frame ! $ says ! is_none $ done !)))))
        (λ t. absurd t)))
    runs (block_ptr b o) =
        let p : Ptr = block_ptr b o in let r : Bor R.Denot = record { ref_ptr = (b, o); now = x } in
        let z : Of.Ghost = (
          (
            (κ, tt),
            (q, tt),
            tt,
            (r, (j, (n, (m, tt)))),
            (vptr b o ∷ [], (vint w32 j ∷ [], (vint w32 n ∷ [], (vint w64 m ∷ [], tt)))),
          ),
          tt,
        ) in
        qed 𝓛 (raw (Entry p) ∷ (raw (fact 𝓤 (Testable p)) ⊛ ‵ (lent_at R p x κ) ⊛ ‵ (flft κ q)) ∷ []) ∵
        drop ! $ split ! $ heard ! (Testable p) (λ may. split ! $
        fsplit ! $ drop ! $ hide ! $ feq_i ! (List Val) (vptr b o ∷ []) (vptr b o ∷ []) refl $ fjoin ! $
        -- [the reference; the token]
        enter ! C Λ code.function (vptr b o ∷ vint w32 j ∷ vint w32 n ∷ vint w64 m ∷ []) _ $
        alloc_all ! (λ l. pass_all ! refl (
          (tt, tt),
          (
            (tt, record { fits = fj }),
            (
              (tt, record { fits = fn }),
              ((tt, record { fits = fm }), tt),
            ),
          ),
        ) $
        sets ! (bin ! (get ! refl) (lit ! tt) (tests_null p may)) refl (tt, tt) $
        first ! $ branches ! (get ! refl) (λ t. absurd t)
        (λ t. skips ! $ exec ! C Λ (env code.Mir.locals l) code.Mir.t-3 (at_ret _ (Post p)) $
        sets ! (of_opd ! (get ! refl)) refl (tt, tt) $ sets ! (addr ! (through ! refl (stop !))) refl (tt, tt) $
        nothing ! $ owned ! u64 (Is u64) (uint_Makes 𝓛 w64) m _ (refl, fm) $ fjoin ! $
        owned ! u32 (Is u32) (uint_Makes 𝓛 w32) n _ (refl, fn) $ fjoin ! $
        owned ! u32 (Is u32) (uint_Makes 𝓛 w32) j _ (refl, fj) $ fjoin ! $
        move ! (1 ∷ 0 ∷ []) $ fjoin ! $
        nothing ! $ move ! (2 ∷ 0 ∷ []) $ join ! $ join ! $ nothing ! $ move ! (1 ∷ 0 ∷ []) $ join ! $
        use1 𝓛 (raw (Of.pre z)) (id⊢ 𝓤 _) $
        calls_at ! fm' Of known z
        (and_then ! (get ! refl) (and_then ! (get ! refl) (and_then ! (get ! refl) (and_then ! (get ! refl)
        (no_more !))))) (λ v.
        use1 𝓛 (later (some (λ (d : A.Denot). ((‵ (flft κ q) ⊛ ‵ ftrue) ⊛ ‵ (A.own_val d (v ∷ [])))
        ⊛ raw (ensured 𝓛 of.ended (of.clauses 𝓛 at_mem run) (κ, tt) (r, (j, (n, (m, tt)))) tt d))))
        (id⊢ 𝓤 _) $ await ! tt $ pick ! (λ d. split ! $ move ! (1 ∷ []) $
        use1 𝓛 (raw (of.ensures-1 𝓛 (κ, tt) at_mem run r j n m
        (record { entry = r; exit = r }) (record { entry = j; exit = j }) (record { entry = n; exit = n })
        (record { entry = m; exit = m }) d))
        (ex_e 𝓤 _ (λ ws. snd∗ 𝓤 (sem 𝓛 (lasts of.ended (κ, tt) (r, (j, (n, (m, tt)))) ws)) _)) $
        heard ! _ (λ told. split ! $ split ! $ move ! (2 ∷ []) $
        peeks ! A (Is A) (shows 𝓛 A) d (v ∷ []) (λ is.
        lands_as ! refl refl ((lawful the_type the_laws 𝓛).typed d _ is).0 $
        returns ! (look_at ! 0 refl) $ free_all ! refl $
        suffices ! _
        (ends_at 𝓛 f.ended stayed c (y p) v d (tt, (tt, (tt, (tt, tt)))) (tt, (tt, (tt, (tt, tt))))) $
        keep ! (0 ∷ 1 ∷ []) $ nothing ! $ nothing ! $ join ! $ nothing ! $ join ! $ nothing ! $ join ! $ nothing ! $
        join ! $ nothing ! $ group ! 3 $ frame ! $ says ! told $ done !)))))))

  meets : (𝓣 : Tables 𝓤 𝓛.H) → Triple 𝓤 (𝓣.C #of) Of → Triple 𝓤 (𝓣.C #none) None
      → Meets 𝓛 f.signature (WpFn 𝓤 𝓛.H 𝓣.C 𝓣.Λ code.function) (f.spec 𝓛 at_mem run)
  meets 𝓣 known none_known =
      walk_Meets 𝓛 f.ended stayed (
        Goes-dropped 𝓛 0 (plain (λ _. RawPtr)) yes (λ κs a g. refl),
        (
          Goes-dropped 𝓛 0 (plain (λ _. u32)) yes (λ κs a g. refl),
          (
            Goes-dropped 𝓛 0 (plain (λ _. u32)) yes (λ κs a g. refl),
            (Goes-dropped 𝓛 0 (plain (λ _. u64)) yes (λ κs a g. refl), tt),
          ),
        ),
      )
      c (WpFn 𝓤 𝓛.H 𝓣.C 𝓣.Λ code.function) (WpFn-mono 𝓤 𝓛.H 𝓛.laws 𝓣 code.function)
      (walked 𝓛 f.ended stayed c (WpFn 𝓤 𝓛.H 𝓣.C 𝓣.Λ code.function)
      (λ κs. (rawptr_vals, (uint_vals w32, (uint_vals w32, (uint_vals w64, tt)))))
      (λ κs. (rawptr_Tells, (uint_Tells w32, (uint_Tells w32, (uint_Tells w64, tt)))))
      (λ κs qs bounds a g are.
      runs 𝓣.C 𝓣.Λ (fm_of 𝓤 𝓛.H 𝓛.laws 𝓣) known none_known a.1.0 are.1.0.1 a.1.1.0 are.1.1.0.1 a.1.1.1.0
      are.1.1.1.0.1 g.0 g.1 g.2 a.0))

pub cqs_call_spec : {M : Type 1} → stated.statement M
unfolding tables_of
cqs_call_spec 𝓤 𝓛 𝓜 𝓡 wired =
    entered 𝓤 𝓛.H (triple_of 𝓛 f.signature (f.spec 𝓛 𝓜.mem 𝓡.returns))
    (tables 𝓤 𝓛.H 𝓜 𝓡 𝓡.env).C (tables 𝓤 𝓛.H 𝓜 𝓡 𝓡.env).Λ key code.function (code.unfolded 𝓤 𝓛.H 𝓜 𝓡 wired)
    (meets 𝓛 𝓜.mem 𝓡.returns (tables_of 𝓤 𝓛.H 𝓜 (tables 𝓤 𝓛.H 𝓜 𝓡 𝓡.env))
    (of_thm.met 𝓤 𝓛 𝓜 𝓡 (code.calls-cqs_c::calls::call 𝓡.env wired))
    (none_thm.met 𝓤 𝓛 𝓜 𝓡 (code.calls-cqs_c::answers::nowhere 𝓡.env wired)))
