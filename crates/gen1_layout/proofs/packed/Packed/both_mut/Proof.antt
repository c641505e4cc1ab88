-- `both_mut` borrows the bytes of both sides, and a pair from them. The borrow checker gives no clause for a pair of
-- borrows from a struct. So this proof steps through the code: two calls, and the joint effect of their borrows on
-- the battle.
use mathlib.Core.List.{List, [], ◌++◌, ◌∷◌}
use mathlib.Core.Path.{◌≡◌, ap, refl, sym, ◌∙◌}
use Prim.Native.Nat.{ℕ}
use lib.ListN.{length}
use mir.Syntax.{named}
use mir.Val.{Val, of_list, vcons, vnil, vstruct}
use base.Fml.{GName, flft, ftrue}
use base.Logic.{emp, id⊢}
use contract.Monad.{fact, fact_i}
use contract.Running.{tables}
use types.Kit.{ !, Item, await, done, drop, feq_i, fjoin, fpack, fpick, frame, fsplit, feq_l, join, keep, later, move, pick, qed, raw, rewrite, some, split, split3, suffices, use0, use1, use2, use3, ‵, ◌$◌, ◌∵◌, ◌⊛◌}
use types.ByLocal.{alloc_all, free_all, get, lands_as, look_at, pass_all, sets, through}
use types.Run.{addr, and_then, enter, no_more, returns, stop}
use denote.Array.{Array}
use denote.Builtin.{RefMutOf, u8}
use denote.Enum.Loose.{loose_lawful}
use denote.Exit.{no, yes}
use denote.Follow.{follows, follows_both}
use denote.Laws.{Is, shows}
use denote.RattleType.{RattleType, Valss, owns}
use denote.Ref.{MutBor, MutRef, mut_Tells, mut_vals}
use denote.Signature.{plain}
use denote.Slice.{MutSlice, mut_slice_vals, slice_val}
use denote.Steps.{heard, nothing, only, peeks}
use denote.Struct.Declared.{shape}
use denote.Struct.Struct.{within}
use denote.Struct.Tuple.{Tuple, tuple_type}
use denote.Triple.Call.{calls_at}
use denote.Triple.Clauses.{Lasts, lasts}
use denote.Triple.Spec.{triple_of}
use denote.Triple.Table.{framed}
use denote.Triple.Walked.{Goes-dropped, Goes-spent_ref, Stays, ends_at, says, stay_dropped, walk_of}
use Rattle.std.proofs.raw_atomic.Walks.{proved}
use Rattle.gen1_machine.specs.Sides.{other}
use Rattle.gen1_machine.specs.contracts.side.Side as side
use Rattle.gen1_machine.proofs.side.Side.TheLaws as side_laws
use Rattle.std.specs.List.{refill}
use Rattle.gen1_layout.specs.Parts.{Parts, bytes_of_side, bytes_of_sides, in_order, refilled, with_sides}
use Rattle.gen1_layout.proofs.Memory.{Row}
use Rattle.gen1_layout.proofs.Views.{both-leave, both-value}
use Rattle.gen1_layout.proofs.Pairs.{both_behind, both_then, lent_anew}
use Rattle.gen1_layout.specs.contracts.packed.Packed.both_mut as f
use Rattle.gen1_layout.specs.contracts.packed.Packed.sides_mut as g
use Rattle.gen1_layout.specs.contracts.packed.in_two as h
use Rattle.gen1_layout.proofs.packed.Packed.sides_mut.Met as g_thm
use Rattle.gen1_layout.proofs.packed.in_two.Met as h_thm
use Rattle.gen1_layout.proofs.packed.Packed.both_mut.Statement.{statement}
use Rattle.gen1_layout.proofs.packed.Packed.both_mut.Code as code

abbrev Which : RattleType
Which = side.the_row

abbrev side_vals : Which.Denot → List Val
side_vals s = side_laws.lowered s ∷ []

abbrev stayed : Stays f.ended.signature.params f.ended.kept
stayed = (stay_dropped (RefMutOf (0 ∷ []) tt (plain (λ _. Row)) (λ _. tt)) no, (stay_dropped (plain (λ _. Which)) yes, tt))

pub both_mut_spec : {M : Type 1} → statement M
both_mut_spec 𝓤 𝓛 𝓜 𝓡 wired =
    let c = f.clauses 𝓛 𝓜.mem 𝓡.returns in let W = walk_of 𝓛 f.ended stayed c in
    proved 𝓛 f.ended stayed c 𝓜 𝓡 (Goes-spent_ref 𝓛 1 (0 ∷ []) tt (plain (λ _. Row)), (Goes-dropped 𝓛 1 (plain (λ _. Which)) yes (λ κs x w. refl), tt))
    f.Key.name code.function (code.unfolded 𝓤 𝓛.H 𝓜 𝓡 wired)
    (λ κs. (mut_vals, (side_vals, tt))) (λ κs. (mut_Tells (named 0) κs.0 Row, (side_laws.lowers.val_is, tt))) (λ κs qs bounds a _ are.
    let κ = κs.0 in let q = qs.0 in let γ = a.0.ghost_name in let p = a.0.now in let s = a.1.0 in
    let Slice : RattleType = MutSlice (named 0) κ u8 in
    let y : W.Ghost = ((κs, qs, bounds, a, (mut_vals a.0, (side_vals s, tt))), tt) in
    let anew : MutBor (List ℕ) → Item 𝓤 = λ r. later (some (λ (δ : GName). ‵ (Slice.own_val (record r { ghost_name = δ }) (mut_slice_vals r)) ⊛ ‵ (flft κ q) ⊛ ‵ (follows (Array u8 0) (Array u8 0) r.ghost_name δ (refill (length r.now) r.now)))) in
    let becomes : List ℕ → List ℕ → Parts = λ v w. with_sides (in_order s v w) p in
    let G = triple_of 𝓛 g.signature (g.spec 𝓛 𝓜.mem 𝓡.returns) in
    let z : G.Ghost = ((κs, qs, tt, (a.0, tt), (mut_vals a.0, tt)), tt) in
    qed 𝓛 (((‵ (flft κ q) ⊛ ‵ ftrue) ⊛ ‵ (owns (MutRef (named 0) κ Row ∷ Which ∷ []) a y.0.4)) ∷ ‵ ftrue ∷ []) ∵
    enter ! _ _ _ _ _ $
    alloc_all ! (λ l. pass_all ! refl ((tt, tt), (((loose_lawful side.the_type side_laws.the_loose tt 𝓛).typed s (side_vals s) are.1.0).0, tt)) $
    sets ! (addr ! (through ! refl (stop !))) refl (tt, tt) $
    split ! $ move ! (1 ∷ []) $ fsplit ! $
    -- [self; side; the token; nothing]
    nothing ! $ move ! (1 ∷ 0 ∷ []) $ fjoin ! $ move ! (2 ∷ 0 ∷ []) $ join ! $ move ! (0 ∷ 2 ∷ []) $
    use2 𝓛 (raw (G.pre z)) (id⊢ 𝓤 _) $
    calls_at ! (framed 𝓤 𝓛.H 𝓜 (tables 𝓤 𝓛.H 𝓜 𝓡 𝓡.env)) G (g_thm.met 𝓤 𝓛 𝓜 𝓡 (code.calls-gen1_layout::packed::Packed::sides_mut 𝓡.env wired)) z
    (and_then ! (get ! refl) (no_more !)) (λ v.
    use1 𝓛 (later (some (λ (r : MutBor (List ℕ)). ((‵ (flft κ q) ⊛ ‵ ftrue) ⊛ ‵ (Slice.own_val r (v ∷ [])))
    ⊛ some (λ (ws : Lasts g.ended κs z.0.3). ‵ (lasts g.ended κs z.0.3 ws) ⊛ (‵ (follows Row (Array u8 0) γ r.ghost_name (λ w. with_sides w p))
    ⊛ raw (fact 𝓤 (r.now ≡ bytes_of_sides p)) ⊛ raw (fact 𝓤 (length r.now ≡ 360)) ⊛ raw (fact 𝓤 ((length (bytes_of_side p.one) ≡ 180) × (length (bytes_of_side p.two) ≡ 180)))))))) (id⊢ 𝓤 _) $ await ! tt $ pick ! (λ r.
    split ! $ move ! (1 ∷ []) $ pick ! (λ _. split ! $ drop ! $ split ! $ move ! (1 ∷ []) $ split3 ! $ heard ! _ (λ seen. heard ! _ (λ many. heard ! _ (λ long.
    -- [the battle's final value; the token, and the bytes of both; side; nothing]
    move ! (1 ∷ []) $ split ! $ move ! (1 ∷ []) $ peeks ! Slice (Is Slice) (shows 𝓛 Slice) r (v ∷ []) (λ is.
    lands_as ! (ap only is.0.0) refl (tt, (tt, (record { fits = is.0.1.0 }, tt))) $
    rewrite ! 0 (λ (vs : List Val). ‵ (Slice.own_val r vs)) is.0.0 refl $
    move ! (0 ∷ 3 ∷ []) $ fjoin ! $ move ! (1 ∷ 0 ∷ []) $ join ! $ use0 𝓛 (raw (fact 𝓤 (length r.now ≡ 360))) (fact_i 𝓤 _ (emp 𝓤) many) $ move ! (1 ∷ 0 ∷ []) $
    let K = triple_of 𝓛 h.signature (h.spec 𝓛 𝓜.mem 𝓡.returns) in
    let x : K.Ghost = ((κs, qs, tt, (r, (s, tt)), (mut_slice_vals r, (side_vals s, tt))), tt) in
    use2 𝓛 (raw (K.pre x)) (id⊢ 𝓤 _) $
    calls_at ! (framed 𝓤 𝓛.H 𝓜 (tables 𝓤 𝓛.H 𝓜 𝓡 𝓡.env)) K (h_thm.met 𝓤 𝓛 𝓜 𝓡 (code.calls-gen1_layout::packed::in_two 𝓡.env wired)) x
    (and_then ! (get ! refl) (and_then ! (get ! refl) (no_more !))) (λ u.
    use1 𝓛 (later (some (λ (t : MutBor (List ℕ) × MutBor (List ℕ)). ((‵ (flft κ q) ⊛ ‵ ftrue) ⊛ ‵ ((Tuple (Slice ∷ Slice ∷ [])).own_val t (u ∷ [])))
    ⊛ some (λ (ws : Lasts h.ended κs x.0.3). ‵ (lasts h.ended κs x.0.3 ws) ⊛ (‵ (follows_both (Array u8 0) (Array u8 0) (Array u8 0) r.ghost_name t.0.ghost_name t.1.ghost_name (in_order s))
    ⊛ raw (fact 𝓤 (r.now ≡ in_order s t.0.now t.1.now)) ⊛ raw (fact 𝓤 ((length t.0.now ≡ 180) × (length t.1.now ≡ 180)))))))) (id⊢ 𝓤 _) $ await ! tt $ pick ! (λ t.
    split ! $ move ! (1 ∷ []) $ pick ! (λ _. split ! $ drop ! $ split ! $ move ! (1 ∷ []) $ split ! $ heard ! _ (λ cut. heard ! _ (λ halves.
    -- [the final bytes; the token, and the pair; the battle's final value; nothing]
    move ! (2 ∷ 0 ∷ []) $ use2 𝓛 (‵ (follows_both Row (Array u8 0) (Array u8 0) γ t.0.ghost_name t.1.ghost_name becomes))
    (both_then 𝓛 Row (Array u8 0) (Array u8 0) (Array u8 0) (λ w. with_sides w p) (in_order s) γ r.ghost_name t.0.ghost_name t.1.ghost_name) $
    move ! (1 ∷ []) $ split ! $ move ! (1 ∷ []) $ fpick ! (λ vss. fsplit ! $ feq_l ! (λ whole. fsplit ! $
    peeks ! Slice (Is Slice) (shows 𝓛 Slice) t.0 vss.0 (λ one. move ! (1 ∷ []) $ fsplit ! $ peeks ! Slice (Is Slice) (shows 𝓛 Slice) t.1 vss.1.0 (λ two.
    -- [the second; nothing; the first; the token; the battle's final value; nothing]
    move ! (3 ∷ []) $ split ! $ move ! (4 ∷ 0 ∷ []) $
    use2 𝓛 (anew t.0) (lent_anew 𝓛 κ q t.0 vss.0) $ await ! tt $ pick ! (λ δ. split3 ! $ move ! (4 ∷ 1 ∷ []) $
    use2 𝓛 (anew t.1) (lent_anew 𝓛 κ q t.1 vss.1.0) $ await ! tt $ pick ! (λ ε. split3 ! $
    -- [the second; the token; its final value; the first; its final value; nothing twice; the battle's final value;
    -- nothing]
    move ! (7 ∷ 4 ∷ 2 ∷ []) $ use3 𝓛 (‵ (follows_both Row (Array u8 0) (Array u8 0) γ δ ε (λ v w. becomes (refill (length t.0.now) t.0.now v) (refill (length t.1.now) t.1.now w))))
    (both_behind 𝓛 Row (Array u8 0) (Array u8 0) becomes (refill (length t.0.now) t.0.now) (refill (length t.1.now) t.1.now) γ t.0.ghost_name t.1.ghost_name δ ε) $
    let is_own = both-value p long s t.0.now t.1.now (sym seen ∙ cut) halves.0 halves.1 in
    let same : (v w : List ℕ) → becomes (refill (length t.0.now) t.0.now v) (refill (length t.1.now) t.1.now w) ≡ refilled s v (refilled (other s) w p) = λ v w.
    (λ i. becomes (refill (halves.0 i) (is_own.0 i) v) (refill (halves.1 i) (is_own.1 i) w)) ∙ both-leave p long s v w in
    rewrite ! 0 (λ (F : List ℕ → List ℕ → Parts). ‵ (follows_both Row (Array u8 0) (Array u8 0) γ δ ε F)) (λ i v w. same v w i) refl $
    let own : MutBor (List ℕ) = record t.0 { ghost_name = δ } in let others : MutBor (List ℕ) = record t.1 { ghost_name = ε } in
    let pair : Val = vstruct (vcons (slice_val t.0.ref_ptr (length t.0.now)) (vcons (slice_val t.1.ref_ptr (length t.1.now)) vnil)) in
    lands_as ! (ap only whole ∙ (λ i. vstruct (of_list (one.0.0 i ++ (two.0.0 i ++ []))))) refl (tt, ((tt, (record { fits = one.0.1.0 }, tt)), ((tt, (record { fits = two.0.1.0 }, tt)), tt))) $
    nothing ! $ move ! (2 ∷ 0 ∷ []) $ fjoin ! $ move ! (3 ∷ 0 ∷ []) $ fjoin ! $ feq_i ! (List Val) (pair ∷ []) (pair ∷ []) refl $ fjoin ! $
    fpack ! (Valss (Slice ∷ Slice ∷ [])) (within (shape (tuple_type (Slice ∷ Slice ∷ []))) (own, (others, tt)) (pair ∷ [])) (mut_slice_vals t.0, (mut_slice_vals t.1, tt)) $
    -- [the pair; the battle's final value; the token; nothing, three times]
    returns ! (look_at ! 0 refl) $ free_all ! refl $ keep ! (0 ∷ 1 ∷ 2 ∷ 3 ∷ []) $
    suffices ! _ (ends_at 𝓛 f.ended stayed c y pair (own, others) (tt, (tt, tt)) (tt, (tt, tt))) $
    nothing ! $ nothing ! $ fjoin ! $ nothing ! $ fjoin ! $ move ! (0 ∷ 1 ∷ []) $ join ! $ move ! (2 ∷ 3 ∷ []) $ join ! $ move ! (0 ∷ 1 ∷ []) $ join ! $
    frame ! $ frame ! $ says ! halves $ use0 𝓛 (raw (fact 𝓤 _)) (fact_i 𝓤 _ (emp 𝓤) is_own) $ done !))))))))))))))))))))
