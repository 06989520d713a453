-- The export tests the pointer, and lets what lies there go.
use Rattle.std.proofs.Common.{◌≡◌, ℕ, ◌+◌, ◌*◌, ◌^◌, ◌<◌, List, [], ◌∷◌, refl, sym, ap, subst, lit<}
use seplogic.Ra.Ura.{Ura}
use base.Fraction.{full_share}
use mir.Val.{Val, vunit, vptr, vnull}
use base.Logic.{SProp, ent, sep, id⊢}
use base.Fml.{ftrue, fat, froom}
use prog.Memory.{Memory}
use prog.Routine.{Routine}
use prog.Wp.{Calls, Loops, WpFn, Tables}
use types.Logic.{Logic, sem}
use contract.Monad.{Fun, fact}
use contract.Running.{tables, tables_of}
use types.Kit.{‵, raw, ◌⊛◌, some, later, at_ret, ◌$◌, ◌∵◌, !, qed, move, drop, use1, split, join, pick, fsplit, fjoin, feq_i, feq_l, suffices, await, group, done}
use types.Run.{and_then, no_more, returns, returns_within, enter, of_opd, lit, unit_lit, load, look, bin, stop, first, branches, skips, exec}
use types.ByLocal.{alloc_all, pass_all, free_all, look_at, get, through, sets, lands_as, env}
use sound.WpLaws.{FmC, fm_of, WpFn-mono}
use denote.Builtin.{unit}
use denote.Exit.{yes}
use denote.Laws.{Is, shows}
use borrow.Table.OneValue.{part_out}
use denote.Memory.{part_at}
use denote.RawPtr.{Ptr, block_ptr, null_ptr, RawPtr, rawptr_vals, rawptr_Tells, ptr_val, Testable, tests_null, lies_at}
use denote.Signature.{plain}
use denote.Steps.{peeks, heard, nothing, only}
use denote.Triple.Statement.{Contract, Triple}
use denote.Triple.Call.{calls_at}
use denote.Triple.Clauses.{Clauses, ensured}
use denote.Triple.Entry.{on_entry}
use denote.Triple.Spec.{Meets, triple_of}
use denote.Triple.Table.{entered}
use denote.Triple.Walked.{Stays, stay_dropped, walk_of, Goes-dropped, ends_at, walked, walk_Meets}
use Rattle.std.specs.Ptr.{if_non_null}
use Rattle.cqs_c_numbers.specs.contracts.numbered.Numbered.{the_row as R}
use Rattle.cqs_c_numbers.proofs.numbered.Numbered.TheLaws.{the_row_laws, mir as shape}
use Rattle.cqs_c.specs.contracts.ending.let_go as of
use Rattle.cqs_c.proofs.ending.let_go.Symbol.{name as #of}
use Rattle.cqs_c.proofs.ending.let_go.Met as of_thm
use Rattle.cqs_c.specs.contracts.ending.cqs_end.Key.{name as key}
use Rattle.cqs_c.specs.contracts.ending.cqs_end as f
use Rattle.cqs_c.proofs.ending.cqs_end.Statement as stated
use Rattle.cqs_c.proofs.ending.cqs_end.Code as code

abbrev stayed : Stays (f.ended).signature.params (f.ended).kept
stayed = (stay_dropped (plain (λ _. RawPtr)) yes, tt)

module _ {M : Type 1} {𝓤 : Ura M} (𝓛 : Logic 𝓤) (at_mem : Memory → SProp 𝓤) (run : Routine → Fun 𝓤) where
  abbrev Of : Contract 𝓤
  Of = triple_of 𝓛 of.signature (of.spec 𝓛 at_mem run)

  abbrev c : Clauses 𝓤 f.ended
  c = f.clauses 𝓛 at_mem run

  module _ (C : Calls 𝓤 𝓛.H) (Λ : Loops 𝓤 𝓛.H) (fm : FmC 𝓤 𝓛.H 𝓛.laws C)
      (known : Triple 𝓤 (C #of) Of) (x : R.Denot) where
    abbrev y : Ptr → (walk_of 𝓛 f.ended stayed c).Ghost
    y p = ((tt, tt, tt, (p, tt), (rawptr_vals p, tt)), x)

    abbrev Post : Ptr → Val → SProp 𝓤
    Post p = (walk_of 𝓛 f.ended stayed c).post (y p)

    abbrev Entry : Ptr → SProp 𝓤
    Entry p = on_entry 𝓛 f.signature tt tt (p, tt) (rawptr_vals p, tt)

    -- what the export is given beside what its parameters own
    abbrev Given : Ptr → SProp 𝓤
    Given p = sep 𝓤 (fact 𝓤 (Testable p)) (sem 𝓛 (if_non_null p (lies_at R full_share p x)))

    runs : (p : Ptr) → ent 𝓤 (sep 𝓤 (Entry p) (Given p))
        (WpFn 𝓤 𝓛.H C Λ code.function (ptr_val p ∷ []) (Post p))
    runs null_ptr =
        qed 𝓛 (raw (Entry null_ptr) ∷ (raw (fact 𝓤 (Testable null_ptr)) ⊛ ‵ ftrue) ∷ []) ∵
        drop ! $ split ! $ heard ! (Testable null_ptr) (λ may. drop ! $
        enter ! C Λ code.function (vnull ∷ []) _ $
        alloc_all ! (λ l. pass_all ! refl ((tt, record { fits = lit< tt }), tt) $
        sets ! (bin ! (get ! refl) (lit ! tt) (tests_null null_ptr may)) refl (tt, tt) $
        first ! $ branches ! (get ! refl)
        (λ t. sets ! (of_opd ! (unit_lit !)) refl (tt, tt) $
        returns_within ! (Post null_ptr) refl (look_at ! 0 refl) $ free_all ! refl $
        suffices ! _ (ends_at 𝓛 f.ended stayed c (y null_ptr) vunit tt (tt, tt) (tt, tt)) $
        nothing ! $ feq_i ! _ (vunit ∷ []) _ refl $ nothing ! $ nothing ! $ join ! $ nothing ! $ group ! 3 $ done !)
        (λ t. absurd t)))
    runs (block_ptr b o) =
        let p : Ptr = block_ptr b o in
        qed 𝓛 (raw (Entry p) ∷ (raw (fact 𝓤 (Testable p)) ⊛ ‵ (part_at R full_share x b o)) ∷ []) ∵
        drop ! $ split ! $ heard ! (Testable p) (λ may.
        use1 𝓛 (some (λ (v : Val). ‵ (fat full_share shape b o v) ⊛ ‵ (R.own_val x (v ∷ []))))
        (part_out 𝓛 R refl full_share x b o) $ pick ! (λ v. split ! $ move ! (1 ∷ []) $
        peeks ! R (Is R) (shows 𝓛 R) x (v ∷ []) (λ is.
        let good = ((the_row_laws.lawful 𝓛).typed x (v ∷ []) is).0 in
        let z : Of.Ghost = ((tt, tt, tt, (x, tt), (v ∷ [], tt)), tt) in
        -- [what the primitive owns; its cell]
        enter ! C Λ code.function (vptr b o ∷ []) _ $
        alloc_all ! (λ l. pass_all ! refl ((tt, tt), tt) $
        sets ! (bin ! (get ! refl) (lit ! tt) (tests_null p may)) refl (tt, tt) $
        first ! $ branches ! (get ! refl) (λ t. absurd t)
        (λ t. skips ! $ exec ! C Λ (env code.Mir.locals l) code.Mir.t-3 (at_ret _ (Post p)) $
        sets ! (of_opd ! (get ! refl)) refl (tt, tt) $
        sets ! (of_opd ! (load ! (through ! refl (stop !)) (look ! 1 refl))) refl good $
        nothing ! $ move ! (1 ∷ 0 ∷ []) $ fjoin ! $ nothing ! $ join ! $ nothing ! $ move ! (1 ∷ 0 ∷ []) $ join ! $
        use1 𝓛 (raw (Of.pre z)) (id⊢ 𝓤 _) $
        calls_at ! fm Of known z (and_then ! (get ! refl) (no_more !)) (λ w.
        use1 𝓛 (later (some (λ (r : Unit {0}). (‵ ftrue ⊛ ‵ (unit.own_val r (w ∷ [])))
        ⊛ raw (ensured 𝓛 of.ended (of.clauses 𝓛 at_mem run) tt (x, tt) tt r)))) (id⊢ 𝓤 _) $ await ! tt $ pick ! (λ r.
        split ! $ move ! (1 ∷ []) $ drop ! $ split ! $ drop ! $ feq_l ! (λ is_unit.
        lands_as ! (ap only is_unit) refl (tt, tt) $ sets ! (of_opd ! (unit_lit !)) refl (tt, tt) $
        returns ! (look_at ! 0 refl) $ free_all ! refl $
        use1 𝓛 (‵ (froom shape b o)) (𝓛.laws.at_room shape b o v) $
        suffices ! _ (ends_at 𝓛 f.ended stayed c (y p) vunit tt (tt, tt) (tt, tt)) $
        feq_i ! _ (vunit ∷ []) _ refl $ nothing ! $ nothing ! $ join ! $ nothing ! $ group ! 3 $ done !))))))))

  meets : (𝓣 : Tables 𝓤 𝓛.H) → Triple 𝓤 (𝓣.C #of) Of
      → Meets 𝓛 f.signature (WpFn 𝓤 𝓛.H 𝓣.C 𝓣.Λ code.function) (f.spec 𝓛 at_mem run)
  meets 𝓣 known =
      walk_Meets 𝓛 f.ended stayed (Goes-dropped 𝓛 0 (plain (λ _. RawPtr)) yes (λ κs a g. refl), tt)
      c (WpFn 𝓤 𝓛.H 𝓣.C 𝓣.Λ code.function) (WpFn-mono 𝓤 𝓛.H 𝓛.laws 𝓣 code.function)
      (walked 𝓛 f.ended stayed c (WpFn 𝓤 𝓛.H 𝓣.C 𝓣.Λ code.function) (λ κs. (rawptr_vals, tt))
      (λ κs. (rawptr_Tells, tt))
      (λ κs qs bounds a g are. runs 𝓣.C 𝓣.Λ (fm_of 𝓤 𝓛.H 𝓛.laws 𝓣) known g a.0))

pub cqs_end_spec : {M : Type 1} → stated.statement M
unfolding tables_of
cqs_end_spec 𝓤 𝓛 𝓜 𝓡 wired =
    entered 𝓤 𝓛.H (triple_of 𝓛 f.signature (f.spec 𝓛 𝓜.mem 𝓡.returns))
    (tables 𝓤 𝓛.H 𝓜 𝓡 𝓡.env).C (tables 𝓤 𝓛.H 𝓜 𝓡 𝓡.env).Λ key code.function (code.unfolded 𝓤 𝓛.H 𝓜 𝓡 wired)
    (meets 𝓛 𝓜.mem 𝓡.returns (tables_of 𝓤 𝓛.H 𝓜 (tables 𝓤 𝓛.H 𝓜 𝓡 𝓡.env))
    (of_thm.met 𝓤 𝓛 𝓜 𝓡 (code.calls-cqs_c::ending::let_go 𝓡.env wired)))
