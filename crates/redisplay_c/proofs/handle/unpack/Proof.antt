-- `unpack` makes the box's parts of the pointer again.
use Rattle.std.proofs.Common.{◌≡◌, List, [], ◌∷◌, ◌++◌, refl, sym, subst}
use mir.Val.{Val, vptr}
use base.Logic.{SProp, ent, emp, id⊢}
use base.Fml.{ftrue}
use prog.Wp.{WpFn}
use types.Kit.{‵, raw, ◌⊛◌, ◌$◌, ◌∵◌, !, qed, by, move, keep, split, fsplit, fjoin, suffices, use0}
use types.Run.{stop, fld, of_opd, no_more, and_then, returns, enter}
use types.ByLocal.{alloc_all, pass_all, free_all, look_at, get, get_in, sets}
use types.Part.{agg, sub, whole}
use contract.Monad.{fact, fact_i}
use contract.Running.{tables}
use denote.Exit.{yes}
use denote.RattleType.{owns}
use denote.Signature.{types_at, plain}
use denote.RawPtr.{block_ptr}
use Rattle.std.specs.Prelude.{Some, IsSome}
use denote.Steps.{nothing, heard}
use denote.Triple.Walked.{Stays, stay_dropped, walk_of, Goes-dropped}
use Rattle.std.proofs.alloc.Calls.{handle_tells}
use Rattle.std.proofs.raw_atomic.Walks.{proved_at, leaves}
use Rattle.std.specs.contracts.alloc.Global.{the_row as Z}
use Rattle.std.proofs.alloc.Global.TheLaws.{the_row_laws as LZ}
use Rattle.std.specs.contracts.impls.GlobalAllocator.TheImpl.{ghosts as g}
use Rattle.rd_embed.specs.contracts.embedded.Embedded.{the_row as R}
use Rattle.redisplay_c.specs.contracts.handle.Handle.{the_row as Handle}
use Rattle.redisplay_c.proofs.Values.{al, some_of, both, one_word, loose_good, loose_in, handle_out}
use Rattle.redisplay_c.specs.contracts.handle.unpack.{ended, clauses}
use Rattle.redisplay_c.specs.contracts.handle.unpack.Key.{name as #self}
use Rattle.redisplay_c.proofs.handle.unpack.Statement.{statement}
use Rattle.redisplay_c.proofs.handle.unpack.Code as code

pub unpack_spec : {M : Type 1} → statement M
unpack_spec 𝓤 𝓛 𝓜 𝓡 wired =
    let 𝓣 = tables 𝓤 𝓛.H 𝓜 𝓡 𝓡.env in let fn = code.function in let c = clauses 𝓛 𝓜.mem 𝓡.returns in
    let hs : Stays ended.signature.params ended.kept = (stay_dropped (plain (λ _. Z)) yes, (stay_dropped (plain (λ _. Handle)) yes, tt)) in
    proved_at 𝓛 ended hs c 𝓜 𝓡 (Goes-dropped 𝓛 0 (plain (λ _. Z)) yes (λ κs x f. refl), (Goes-dropped 𝓛 0 (plain (λ _. Handle)) yes (λ κs x f. refl), tt)) #self fn (code.unfolded 𝓤 𝓛.H 𝓜 𝓡 wired) (λ z are.
    let a = z.0.3.0 in let v = z.0.3.1.0 in let Post : Val → SProp 𝓤 = (walk_of 𝓛 ended hs c).post z in let Run : List Val → SProp 𝓤 = λ ws. WpFn 𝓤 𝓛.H 𝓣.C 𝓣.Λ fn ws Post in
    qed 𝓛 ((‵ ftrue ⊛ ‵ (owns (types_at ended.signature.params z.0.0) z.0.3 z.0.4)) ∷ raw (fact 𝓤 (IsSome v.value)) ∷ []) ∵
    move ! (1 ∷ []) $ heard ! (IsSome v.value) (λ has. let x = (some_of v.value has).0 in let is : v.value ≡ Some x = (some_of v.value has).1 in
    split ! $ move ! (1 ∷ []) $ fsplit ! $ move ! (1 ∷ []) $ fsplit ! $ handle_out ! v x z.0.4.1.0 is (λ b o e ws. move ! (2 ∷ []) $ handle_tells (al R Z LZ g) ! a z.0.4.0 (λ h ea fits. move ! (1 ∷ 0 ∷ []) $
    let w : Val = one_word (vptr b o) in
    suffices ! (Run (h ∷ w ∷ [])) (subst (λ (us : List Val). ent 𝓤 (Run (h ∷ w ∷ [])) (Run us)) (sym (λ i. ea i ++ (ws i ++ []))) (id⊢ 𝓤 (Run (h ∷ w ∷ [])))) $
    enter ! 𝓣.C 𝓣.Λ fn (h ∷ w ∷ []) Post $ alloc_all ! (λ l. pass_all ! refl (fits, ((tt, (tt, tt)), tt)) $
    sets ! (of_opd ! (get_in ! (fld ! refl (stop !)) (sub ! 0 refl (whole !)))) refl (tt, tt) $
    sets ! (of_opd ! (get ! refl)) refl (tt, tt) $
    sets ! (agg ! (and_then ! (get ! refl) (and_then ! (get ! refl) (no_more !)))) refl (loose_good R Z LZ g b o h fits) $
    loose_in R Z LZ g ! b o h a x $
    use0 𝓛 (raw (fact 𝓤 (v.value ≡ Some x))) (fact_i 𝓤 (v.value ≡ Some x) (emp 𝓤) is) $ nothing ! $ nothing ! $ fjoin ! $ nothing ! $ fjoin ! $
    -- [what is left of the parameters; the fact; the box's parts; nothing; the tokens; the requires]
    returns ! (look_at ! 0 refl) $ free_all ! refl $ keep ! (4 ∷ 0 ∷ 2 ∷ 1 ∷ []) $
    by ! (leaves 𝓛 ended hs c z (both (vptr b o) h) (record { at = block_ptr b o; alloc = a; value = x }) (tt, (tt, tt)) (tt, (tt, tt))))))))
