-- `pack` keeps a box's pointer.
use Rattle.std.proofs.Common.{◌≡◌, List, [], ◌∷◌, ◌++◌, refl, sym, subst}
use mir.Val.{Val, vptr}
use base.Logic.{SProp, ent, emp, id⊢}
use base.Fml.{ftrue}
use prog.Wp.{WpFn}
use types.Kit.{‵, raw, ◌⊛◌, ◌$◌, ◌∵◌, !, qed, by, move, keep, split, fsplit, fjoin, suffices, use0}
use types.Run.{stop, fld, of_opd, no_more, and_then, returns, enter}
use types.ByLocal.{alloc_all, pass_all, free_all, look_at, get, get_in, sets}
use types.Part.{agg, sub, whole}
use contract.Monad.{fact, fact_i}
use contract.Running.{tables}
use denote.Exit.{yes}
use denote.RattleType.{owns}
use denote.Signature.{types_at, plain}
use denote.RawPtr.{block_ptr}
use Rattle.std.specs.Prelude.{Option, Some}
use denote.Steps.{nothing}
use denote.Triple.Walked.{Stays, stay_dropped, walk_of, Goes-dropped}
use Rattle.std.proofs.raw_atomic.Walks.{proved_at, leaves}
use Rattle.std.specs.contracts.alloc.Global.{the_row as Z}
use Rattle.std.proofs.alloc.Global.TheLaws.{the_row_laws as LZ}
use Rattle.std.specs.contracts.impls.GlobalAllocator.TheImpl.{ghosts as g}
use Rattle.rd_embed.specs.contracts.embedded.Embedded.{the_row as R}
use Rattle.redisplay_c.proofs.Values.{both, one_word, Loose, loose_good, loose_out, handle_in}
use Rattle.redisplay_c.specs.contracts.handle.pack.{ended, clauses}
use Rattle.redisplay_c.specs.contracts.handle.pack.Key.{name as #self}
use Rattle.redisplay_c.proofs.handle.pack.Statement.{statement}
use Rattle.redisplay_c.proofs.handle.pack.Code as code

pub pack_spec : {M : Type 1} → statement M
pack_spec 𝓤 𝓛 𝓜 𝓡 wired =
    let 𝓣 = tables 𝓤 𝓛.H 𝓜 𝓡 𝓡.env in let fn = code.function in let c = clauses 𝓛 𝓜.mem 𝓡.returns in
    let hs : Stays ended.signature.params ended.kept = (stay_dropped (plain (λ _. Loose R Z LZ g)) yes, tt) in
    proved_at 𝓛 ended hs c 𝓜 𝓡 (Goes-dropped 𝓛 0 (plain (λ _. Loose R Z LZ g)) yes (λ κs x f. refl), tt) #self fn (code.unfolded 𝓤 𝓛.H 𝓜 𝓡 wired) (λ z are.
    let v = z.0.3.0 in let made : Option R.Denot = Some v.value in let Post : Val → SProp 𝓤 = (walk_of 𝓛 ended hs c).post z in let Run : List Val → SProp 𝓤 = λ ws. WpFn 𝓤 𝓛.H 𝓣.C 𝓣.Λ fn ws Post in
    qed 𝓛 ((‵ ftrue ⊛ ‵ (owns (types_at ended.signature.params z.0.0) z.0.3 z.0.4)) ∷ raw ((c z.0.0 z.0.3).requires z.1) ∷ []) ∵
    split ! $ move ! (1 ∷ []) $ fsplit ! $ loose_out R Z LZ g ! v z.0.4.0 (λ b o h e ws fits.
    let w : Val = both (vptr b o) h in let typed = loose_good R Z LZ g b o h fits in
    suffices ! (Run (w ∷ [])) (subst (λ (us : List Val). ent 𝓤 (Run (w ∷ [])) (Run us)) (sym (λ i. ws i ++ [])) (id⊢ 𝓤 (Run (w ∷ [])))) $
    enter ! 𝓣.C 𝓣.Λ fn (w ∷ []) Post $ alloc_all ! (λ l. pass_all ! refl (typed, tt) $
    sets ! (of_opd ! (get_in ! (fld ! refl (stop !)) (sub ! 0 refl (whole !)))) refl (tt, tt) $
    sets ! (of_opd ! (get ! refl)) refl (tt, tt) $
    sets ! (agg ! (and_then ! (get ! refl) (no_more !))) refl (tt, (tt, tt)) $
    handle_in ! v.alloc (block_ptr b o) (Some v.value) (vptr b o) refl $
    use0 𝓛 (raw (fact 𝓤 (made ≡ made))) (fact_i 𝓤 (made ≡ made) (emp 𝓤) refl) $ nothing ! $ nothing ! $ fjoin ! $
    -- [what is left of the parameter; the fact; the handle; the allocator; nothing; the tokens; the requires]
    returns ! (look_at ! 0 refl) $ free_all ! refl $ keep ! (5 ∷ 0 ∷ 2 ∷ 1 ∷ []) $
    by ! (leaves 𝓛 ended hs c z (one_word (vptr b o)) (record { at = block_ptr b o; value = Some v.value; of = v.alloc }) (tt, tt) (tt, tt)))))
