-- What a closed table held is lent where it lies, and the place follows it.
use mathlib.Core.Path.{◌≡◌, refl, sym}
use Prim.Native.Nat.{ℕ}
use mathlib.Core.List.{List, [], ◌∷◌}
use seplogic.Ra.Ura.{Ura}
use base.Fraction.{full_share}
use Rattle.std.specs.Prelude.{None, Option, Some, ◌≢◌}
use mir.Syntax.{Body, named, seq, assign, return, place as at, copy, rv_opd}
use mir.Raw.{raw as bare}
use mir.Val.{Val, vptr}
use base.Logic.{SProp, ent, sep, id⊢}
use base.Fml.{Lft, GName, Share, Fml, ftrue, flft, fsep}
use prog.Memory.{Memory}
use prog.Routine.{Routine}
use prog.Wp.{Env, Calls, Loops, WpFn, Tables}
use types.Logic.{Logic, sem}
use contract.Monad.{Fun}
use contract.Running.{tables, tables_of}
use sound.WpLaws.{WpFn-mono}
use types.Kit.{‵, raw, ◌⊛◌, some, later, at_ret, ◌$◌, ◌∵◌, !, qed, by, move, keep, drop, use1, join, split, group, pick, rewrite, fsplit, fsplit3, fjoin, fpack, suffices, frame, await, done}
use types.Part.{whole, sub, look_in}
use types.Run.{stop, fld, addr, load, of_opd, first, blocks, exec, returns, enter}
use types.ByLocal.{alloc_all, pass_all, free_all, look_at, get, through, sets, sets_last, env}
use denote.RattleType.{RattleType, owns}
use denote.Exit.{no}
use denote.Follow.{follows, Part, lends_Part}
use denote.Memory.{part_at, part_of, raw_all, mem, cell_at}
use denote.Param.{param}
use denote.RawPtr.{block_ptr}
use denote.Ref.{MutBor, MutRef, mut_vals, mut_Tells}
use denote.Signature.{Slot, plain, mut_ref_to}
use denote.Steps.{nothing, opens}
use denote.Triple.Clauses.{Clauses}
use denote.Triple.Entry.{on_entry}
use denote.Triple.Spec.{triple_of}
use denote.Triple.Table.{entered}
use denote.Triple.Walked.{says, needs, Stays, stay_dropped, walk_of, ends_at, walked, walk_Meets, Goes-spent_ref}
use Rattle.core.proofs.alloc.Calls.{token}
use Rattle.std_alloc.proofs.BoxSteps.Form.{D, τ, handle, word}
use Rattle.std_alloc.proofs.BoxSteps.Steps.{box_out, box_in}
use Rattle.wfe_c.proofs.AsBox.{EClosed as E, the_closed}
use Rattle.wfe_c.specs.Lent.{with_closed}
use Rattle.wfe_table_end.specs.declared.closed.Closed.{Closed as Held}
use Rattle.wfe_c.specs.Place.{closed_in}
use Rattle.wfe_c.specs.declared.kept.Kept.{Kept}
use Rattle.wfe_c.specs.declared.kept.Kept.TheVariants as kepts
use Rattle.wfe_c.specs.declared.place.Place.{Place as Spot}
use Rattle.wfe_table_end.specs.contracts.closed.Closed as Closed
use Rattle.wfe_c.specs.contracts.place.Place as Place
use Rattle.wfe_c.specs.contracts.place.Place.closed as F
use Rattle.wfe_c.specs.contracts.place.Place.closed.Key.{name as #self}
use Rattle.wfe_c.proofs.place.Place.closed.Statement as stated
use Rattle.wfe_c.proofs.place.Place.closed.Code as code

abbrev From : Slot 1
From = plain (λ _. Place.the_row)

abbrev stayed : Stays (F.ended).signature.params (F.ended).kept
stayed = (stay_dropped (mut_ref_to (0 ∷ []) tt From) no, tt)

abbrev rest : Body
rest = seq (assign (at 0 []) (rv_opd (copy (at 2 [])))) return

abbrev P : RattleType
P = Place.the_row

abbrev J : RattleType
J = Closed.the_row

as_param : (x : Held) (b o : ℕ) → part_at J full_share x b o ≡ part_at (param 0 J) full_share x b o
as_param x b o j = part_of (raw_all (E.laws.one j)) J.own_val full_share x b o

module _ {M : Type 1} {𝓤 : Ura M} (𝓛 : Logic 𝓤) (at_mem : Memory → SProp 𝓤) (run : Routine → Fun 𝓤) where
  open 𝓛 use {H, A}

  abbrev held : Clauses 𝓤 F.ended
  held = F.clauses 𝓛 at_mem run

  module _ (κ : Lft) (q : Share) (rb ro : ℕ) (γ : GName) (place : Spot) where
    abbrev self : MutBor Spot
    self = record { ref_ptr = (rb, ro); ghost_name = γ; now = place }

    abbrev bound : (walk_of 𝓛 F.ended stayed held).Ghost
    bound = (((κ, tt), (q, tt), tt, (self, tt), (vptr rb ro ∷ [], tt)), tt)

    abbrev Post : Val → SProp 𝓤
    Post = (walk_of 𝓛 F.ended stayed held).post bound

    abbrev as_box : Held → D E
    as_box x = record { ptr = place.at; alloc = place.alloc; value = x }

    module _ (b o : ℕ) (hv : Val) where
      -- all of the place but what is lent
      abbrev Rest : Fml
      Rest = fsep (fsep (token E.al place.alloc (bare (τ E)) (block_ptr b o)) (handle E place.alloc hv)) (cell_at full_share P.mir (word E hv b o ∷ []) rb ro)

      back : place.at ≡ block_ptr b o → (w : Held) → ent 𝓤 (sep 𝓤 (sem 𝓛 ((mem J).own_at w b o)) (sem 𝓛 Rest)) (sem 𝓛 ((mem P).own_at (with_closed place w) rb ro))
      unfolding part_of
      back at_b w =
          qed 𝓛 (‵ (part_at J full_share w b o) ∷ ‵ Rest ∷ []) ∵ rewrite ! 0 (λ (F : Fml). ‵ F) (as_param w b o) refl $ move ! (1 ∷ []) $ fsplit ! $ fsplit ! $ move ! (3 ∷ []) $
          box_in E ! (as_box w) b o w at_b refl $ use1 𝓛 (‵ (P.own_val (with_closed place w) (word E hv b o ∷ []))) (id⊢ 𝓤 _) $ move ! (1 ∷ 0 ∷ []) $ fjoin ! $
          fpack ! (List Val) (λ us. fsep (cell_at full_share P.mir us rb ro) (P.own_val (with_closed place w) us)) (word E hv b o ∷ []) $ done !

      exits : (x : Held) → place.inside ≡ Some (kepts.Closed x) → (γ' : GName)
          → ent 𝓤 (sep 𝓤 (sem 𝓛 ((MutRef (named 0) κ J).own_val (record { ref_ptr = (b, o); ghost_name = γ'; now = x }) (vptr b o ∷ []))) (sep 𝓤 (A.lft κ q) (sem 𝓛 (follows P J γ γ' (with_closed place))))) (Post (vptr b o))
      exits x is γ' =
          qed 𝓛 (‵ ((MutRef (named 0) κ J).own_val (record { ref_ptr = (b, o); ghost_name = γ'; now = x }) (vptr b o ∷ [])) ∷ ‵ (flft κ q) ∷ ‵ (follows P J γ γ' (with_closed place)) ∷ []) ∵
          suffices ! _ (ends_at 𝓛 F.ended stayed held bound (vptr b o) (record { ref_ptr = (b, o); ghost_name = γ'; now = x }) (tt, tt) (tt, tt)) $
          nothing ! $ nothing ! $ fjoin ! $ join ! $ nothing ! $ move ! (2 ∷ 0 ∷ []) $ join ! $ join ! $ frame ! $ says ! is $ done !

    module _ (C : Calls 𝓤 H) (Λ : Loops 𝓤 H) (x : Held) (is : place.inside ≡ Some (kepts.Closed x)) where
      walk : ent 𝓤 (on_entry 𝓛 F.signature (κ, tt) (q, tt) (self, tt) (vptr rb ro ∷ [], tt)) (WpFn 𝓤 H C Λ code.function (vptr rb ro ∷ []) Post)
      walk =
          qed 𝓛 ((‵ (flft κ q) ⊛ ‵ ftrue) ∷ ‵ (owns (MutRef (named 0) κ P ∷ []) (self, tt) (vptr rb ro ∷ [], tt)) ∷ []) ∵
          enter ! C Λ code.function (vptr rb ro ∷ []) _ $ alloc_all ! (λ l. pass_all ! refl ((tt, tt), tt) $
          let En : Env 𝓤 H = env code.function.locals l in
          move ! (1 ∷ []) $ fsplit ! $ fsplit3 ! $ drop ! $ move ! (3 ∷ []) $ split ! $ move ! (2 ∷ 3 ∷ 0 ∷ []) $
          opens ! tt P {h = place} rb ro (λ vs. move ! (1 ∷ []) $ rewrite ! 0 (λ (inside : Option Kept). ‵ (P.own_val (record place { inside = inside }) vs)) is refl $
          box_out E ! (as_box x) vs (λ b o hv e ws fa. rewrite ! 3 (λ (us : List Val). ‵ (cell_at full_share P.mir us rb ro)) ws refl $
          -- [what is lent; the token; the handle; the place; the open borrow; obs; auth]
          first ! $ blocks ! $ sets ! (of_opd ! (load ! (through ! refl (fld ! refl (stop !))) (look_in ! 3 (sub ! 0 refl (whole !))))) refl (tt, tt) $ sets ! (of_opd ! (get ! refl)) refl (tt, tt) $
          sets_last ! (addr ! (through ! refl (stop !))) refl (tt, tt) $ exec ! C Λ En rest (at_ret En Post) $ sets ! (of_opd ! (get ! refl)) refl (tt, tt) $
          rewrite ! 0 (λ (F : Fml). ‵ F) (sym (as_param x b o)) refl $ move ! (1 ∷ 2 ∷ []) $ fjoin ! $ move ! (0 ∷ 2 ∷ []) $ fjoin ! $ move ! (2 ∷ 3 ∷ 4 ∷ 1 ∷ 0 ∷ []) $ group ! 5 $
          use1 𝓛 (later (some (λ (γ' : GName). raw (Part 𝓛 P J (with_closed place) (named 0) κ q rb ro b o γ (sem 𝓛 (Rest b o hv)) (back b o hv e) x γ'))))
          (lends_Part 𝓛 P J (with_closed place) (named 0) κ q rb ro b o γ (sem 𝓛 (Rest b o hv)) (back b o hv e) (P.coded.code place) (P.coded.code place) x) $ await ! tt $ pick ! (λ γ'.
          returns ! (look_at ! 0 refl) $ free_all ! refl $ keep ! (0 ∷ []) $ by ! (exits b o hv x is γ')))))

pub closed_spec : {M : Type 1} → stated.statement M
unfolding tables_of
closed_spec 𝓤 𝓛 𝓜 𝓡 wired =
    let 𝓣 : Tables 𝓤 𝓛.H = tables_of 𝓤 𝓛.H 𝓜 (tables 𝓤 𝓛.H 𝓜 𝓡 𝓡.env) in
    let c = held 𝓛 𝓜.mem 𝓡.returns in
    entered 𝓤 𝓛.H (triple_of 𝓛 F.signature (F.spec 𝓛 𝓜.mem 𝓡.returns)) 𝓣.C 𝓣.Λ #self code.function (code.unfolded 𝓤 𝓛.H 𝓜 𝓡 wired)
    (walk_Meets 𝓛 F.ended stayed (Goes-spent_ref 𝓛 1 (0 ∷ []) tt From, tt) c (WpFn 𝓤 𝓛.H 𝓣.C 𝓣.Λ code.function) (WpFn-mono 𝓤 𝓛.H 𝓛.laws 𝓣 code.function)
    (walked 𝓛 F.ended stayed c (WpFn 𝓤 𝓛.H 𝓣.C 𝓣.Λ code.function) (λ κs. (mut_vals, tt)) (λ κs. (mut_Tells (named 0) κs.0 P, tt))
    (λ κs qs bounds a g are. needs 𝓤 (closed_in a.0.now.inside ≢ None) _ (λ there. let found = the_closed a.0.now.inside there in
    walk 𝓛 𝓜.mem 𝓡.returns κs.0 qs.0 a.0.ref_ptr.0 a.0.ref_ptr.1 a.0.ghost_name a.0.now 𝓣.C 𝓣.Λ found.0 found.1))))
