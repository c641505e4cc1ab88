-- `part_mut` borrows a part of the array as a slice. The borrow checker gives no write-back clause for that. So this
-- proof steps through the code.
use mathlib.Core.List.{List, [], ◌++◌, ◌∷◌}
use mathlib.Core.Path.{◌≡◌, ap, refl, sym, ◌∙◌}
use Prim.Native.Nat.{ℕ, ◌+◌, ◌-◌, ◌<◌, ◌^◌, ◌≤◌}
use native.Mathlib.Omega.{arith}
use lib.ListN.{length, length-drop, take, take-append-drop, drop as drop_list}
use seplogic.Ra.Ura.{Ura}
use mir.Syntax.{named, w64}
use mir.Val.{Val}
use base.Fml.{Fml, GName, Lft, Share, flft, ftrue}
use base.Logic.{SProp, ent, ex, guard, sep}
use contract.Monad.{fact}
use types.Kit.{ !, Item, await, by, check, done, drop, fjoin, frame, fsplit, fsplit3, given, group, join, keep, later, learn, move, now, pick, qed, raw, rewrite, show, some, split, split3, suffices, updating, use1, use2, ‵, ◌$◌, ◌∵◌, ◌⊛◌}
use types.ByLocal.{alloc_all, free_all, get, look_at, pass_all, sets, through}
use types.Logic.{Logic, sem}
use types.Mut.{open_ref}
use types.Part.{agg}
use types.Run.{addr, and_then, bin, enter, fld, no_more, returns, stop}
use types.SemTy.{cells}
use denote.Array.{Array}
use denote.Builtin.{RefMutOf, u8, usize}
use denote.Exit.{no, yes}
use denote.Follow.{follows}
use denote.FollowSlice.{lends_Elements}
use denote.Memory.{mem}
use denote.Plain.{uint_Tells, uint_vals}
use denote.RattleType.{owns}
use denote.Ref.{MutRef, mut_Tells, mut_vals}
use denote.Signature.{plain}
use denote.Slice.{MutSlice, Room, slice_val}
use denote.Steps.{heard, nothing}
use denote.Triple.Walked.{Goes-dropped, Goes-spent_ref, Stays, ends_at, says, stay_dropped, walk_of}
use borrow.Table.Elements.{at, at_byte, cut_app, join_app, length-take-le}
use Rattle.std.proofs.raw_atomic.Walks.{proved}
use Rattle.gen1_layout.specs.Parts.{Parts, joined, part, parts_of, rewritten, joined-parts}
use Rattle.gen1_layout.proofs.Memory.{Inner, Left, Row, bytes_in, bytes_out, start}
use Rattle.gen1_layout.proofs.Views.{length-rewritten, refill-same}
use Rattle.gen1_layout.specs.contracts.packed.Packed.part_mut as f
use Rattle.gen1_layout.proofs.packed.Packed.part_mut.Statement.{statement}
use Rattle.gen1_layout.proofs.packed.Packed.part_mut.Code as code

abbrev stayed : Stays f.ended.signature.params f.ended.kept
stayed = (stay_dropped (RefMutOf (0 ∷ []) tt (plain (λ _. Row)) (λ _. tt)) no, (stay_dropped (plain (λ _. usize)) yes, (stay_dropped (plain (λ _. usize)) yes, tt)))

module _ {M : Type 1} {𝓤 : Ura M} (𝓛 : Logic 𝓤) (κ : Lft) (q : Share) (b o : ℕ) (γ : GName) (d : Parts) (from end : ℕ) where
  open 𝓛 use {H, A}

  abbrev count : ℕ
  count = end - from

  abbrev bytes : List ℕ
  bytes = joined d

  abbrev front : List ℕ
  front = take from bytes

  abbrev middle : List ℕ
  middle = part from count bytes

  abbrev back : List ℕ
  back = drop_list count (drop_list from bytes)

  abbrev after : List ℕ → Parts
  after written = parts_of (rewritten from count written bytes)

  abbrev elements : List ℕ → ℕ → Fml
  elements xs = cells (mem u8) xs b

  abbrev past : ℕ → ℕ → ℕ
  past p = at p (mem u8).size

  -- Where the part begins.
  abbrev spot : ℕ
  spot = from + start o

  abbrev Rest : SProp 𝓤
  Rest = sep 𝓤 (sem 𝓛 (elements front (start o))) (sep 𝓤 (sem 𝓛 (elements back (past spot (length middle)))) (Left 𝓛 b o))

  abbrev Seen : Type 0
  Seen = (length bytes ≡ 384) × (parts_of bytes ≡ d)

  put : from ≤ end → end ≤ 384 → length bytes ≡ 384 → (ws : List ℕ) → length ws ≡ length middle
      → ent 𝓤 (sep 𝓤 (sem 𝓛 (elements ws spot)) Rest) (sem 𝓛 ((mem Row).own_at (after ws) b o))
  put order within long ws e =
      let fits : from + count ≤ length bytes = omega arith in
      let many : length middle ≡ count = length-take-le count (drop_list from bytes) (omega (arith, length-drop from bytes)) in
      let here : past (start o) (length front) ≡ spot = at_byte (start o) (length front) ∙ ap (λ k. k + start o) (length-take-le from bytes (omega arith)) in
      let same : front ++ (ws ++ back) ≡ rewritten from count ws bytes = ap (λ (l : List ℕ). front ++ (l ++ back)) (sym (refill-same count middle ws (e ∙ many))) in
      qed 𝓛 (‵ (elements ws spot) ∷ ‵ (elements front (start o)) ∷ ‵ (elements back (past spot (length middle))) ∷ raw (Left 𝓛 b o) ∷ []) ∵
      move ! (0 ∷ 2 ∷ []) $
      rewrite ! 1 (λ (k : ℕ). ‵ (elements back (past spot k))) (sym e) refl $
      use2 𝓛 (‵ (elements (ws ++ back) spot)) (join_app 𝓛 (mem u8) ws back b spot) $
      rewrite ! 0 (λ (k : ℕ). ‵ (elements (ws ++ back) k)) (sym here) refl $ move ! (1 ∷ 0 ∷ []) $
      use2 𝓛 (‵ (elements (front ++ (ws ++ back)) (start o))) (join_app 𝓛 (mem u8) front (ws ++ back) b (start o)) $
      rewrite ! 0 (λ (l : List ℕ). ‵ (elements l (start o))) same refl $
      by ! (bytes_in 𝓛 b o (rewritten from count ws bytes) (length-rewritten from count ws bytes fits ∙ long))

  abbrev slice : GName → Fml
  slice δ = (MutSlice (named 0) κ u8).own_val (record { ref_ptr = (b, spot); ghost_name = δ; now = middle }) (slice_val (b, spot) count ∷ [])

  abbrev Lent : GName → SProp 𝓤
  Lent δ = guard 𝓤 Seen (sep 𝓤 (sem 𝓛 (slice δ)) (sep 𝓤 (A.lft κ q) (sem 𝓛 (follows Row (Array u8 0) γ δ after))))

  abbrev lent : GName → Item 𝓤
  lent δ = given Seen (‵ (slice δ) ⊛ ‵ (flft κ q) ⊛ ‵ (follows Row (Array u8 0) γ δ after))

  abbrev lent_as : ℕ → GName → Item 𝓤
  lent_as k δ = ‵ ((MutSlice (named 0) κ u8).own_val (record { ref_ptr = (b, spot); ghost_name = δ; now = middle }) (slice_val (b, spot) k ∷ [])) ⊛ ‵ (flft κ q) ⊛ ‵ (follows Row (Array u8 0) γ δ after)

  abbrev loan : List Val → Fml
  loan vs = (MutRef (named 0) κ Row).own_val (record { ref_ptr = (b, o); ghost_name = γ; now = d }) vs

  lends : from ≤ end → end ≤ 384 → (vs : List Val) → ent 𝓤 (sep 𝓤 (sem 𝓛 (loan vs)) (A.lft κ q)) (H.⇛ (ex 𝓤 Lent))
  lends order within vs =
      qed 𝓛 (‵ (loan vs) ∷ ‵ (flft κ q) ∷ []) ∵
      updating ! $ fsplit3 ! $ drop ! $ open_ref ! tt (mem Row) {b = b} {o = o} $
      use1 𝓛 (some (λ (x : (a : Inner.Denot) × ((parts_of a.0 ≡ d) × (length a.0 ≡ 384))). ‵ (elements x.0.0 (start o)) ⊛ raw (Left 𝓛 b o)))
      (bytes_out 𝓛 b o d) $ pick ! (λ x. split ! $
      let is : x.0.0 ≡ bytes = sym (joined-parts x.0.0 x.1.1) ∙ ap joined x.1.0 in
      let long : length bytes ≡ 384 = ap length (sym is) ∙ x.1.1 in
      let many : length middle ≡ count = length-take-le count (drop_list from bytes) (omega (arith, length-drop from bytes)) in
      let here : past (start o) (length front) ≡ spot = at_byte (start o) (length front) ∙ ap (λ k. k + start o) (length-take-le from bytes (omega arith)) in
      let room : Room u8 (length middle) = (omega arith, omega arith) in
      rewrite ! 0 (λ (l : List ℕ). ‵ (elements l (start o))) (is ∙ sym (take-append-drop from bytes)) refl $
      use1 𝓛 (‵ (elements front (start o)) ⊛ ‵ (elements (drop_list from bytes) (past (start o) (length front)))) (cut_app 𝓛 (mem u8) front (drop_list from bytes) b (start o)) $
      split ! $ move ! (1 ∷ []) $ rewrite ! 0 (λ (k : ℕ). ‵ (elements (drop_list from bytes) k)) here refl $
      rewrite ! 0 (λ (l : List ℕ). ‵ (elements l spot)) (sym (take-append-drop count (drop_list from bytes))) refl $
      use1 𝓛 (‵ (elements middle spot) ⊛ ‵ (elements back (past spot (length middle)))) (cut_app 𝓛 (mem u8) middle back b spot) $
      -- [middle; end; beginning; the remaining part of the struct; the open borrow]
      split ! $ move ! (1 ∷ 3 ∷ []) $ join ! $ move ! (2 ∷ 0 ∷ []) $ join ! $ move ! (2 ∷ 3 ∷ 4 ∷ 1 ∷ 0 ∷ []) $ group ! 5 $
      use1 𝓛 (later (some (lent_as (length middle))))
      (lends_Elements 𝓛 Row u8 after (named 0) κ q b o b spot γ middle room Rest (put order within long) (Row.coded.code d) (Row.coded.code d)) $
      await ! tt $ pick ! (λ δ. rewrite ! 0 (λ (k : ℕ). lent_as k δ) many refl $ now ! $ show ! Lent δ $
      check ! (long, ap parts_of (sym is) ∙ x.1.0) $ done !))

pub part_mut_spec : {M : Type 1} → statement M
part_mut_spec 𝓤 𝓛 𝓜 𝓡 wired =
    let c = f.clauses 𝓛 𝓜.mem 𝓡.returns in let W = walk_of 𝓛 f.ended stayed c in
    let goes = Goes-dropped 𝓛 1 (plain (λ _. usize)) yes (λ κs x w. refl) in
    proved 𝓛 f.ended stayed c 𝓜 𝓡 (Goes-spent_ref 𝓛 1 (0 ∷ []) tt (plain (λ _. Row)), (goes, (goes, tt)))
    f.Key.name code.function (code.unfolded 𝓤 𝓛.H 𝓜 𝓡 wired)
    (λ κs. (mut_vals, (uint_vals w64, (uint_vals w64, tt)))) (λ κs. (mut_Tells (named 0) κs.0 Row, (uint_Tells w64, (uint_Tells w64, tt)))) (λ κs qs bounds a _ are.
    let κ = κs.0 in let q = qs.0 in let b = a.0.ref_ptr.0 in let o = a.0.ref_ptr.1 in let γ = a.0.ghost_name in let d = a.0.now in
    let from = a.1.0 in let end = a.1.1.0 in
    let y : W.Ghost = ((κs, qs, bounds, a, (mut_vals a.0, (uint_vals w64 from, (uint_vals w64 end, tt)))), tt) in
    qed 𝓛 (((‵ (flft κ q) ⊛ ‵ ftrue) ⊛ ‵ (owns (MutRef (named 0) κ Row ∷ usize ∷ usize ∷ []) a y.0.4)) ∷ (raw (fact 𝓤 (from ≤ end)) ⊛ raw (fact 𝓤 (end ≤ 384))) ∷ []) ∵
    move ! (1 ∷ []) $ split ! $ heard ! _ (λ order. heard ! _ (λ within.
    let long : end - from < 2 ^ 64 = omega arith in
    enter ! _ _ _ _ _ $
    alloc_all ! (λ l. pass_all ! refl ((tt, tt), ((tt, record { fits = are.1.0.1 }), ((tt, record { fits = are.1.1.0.1 }), tt))) $
    sets ! (addr ! (through ! refl (fld ! refl (stop !)))) refl (tt, tt) $
    sets ! (bin ! (get ! refl) (get ! refl) tt) refl (tt, tt) $
    sets ! (bin ! (get ! refl) (get ! refl) order) refl (tt, record { fits = long }) $
    sets ! (addr ! (through ! refl (stop !))) refl (tt, tt) $
    sets ! (agg ! (and_then ! (get ! refl) (and_then ! (get ! refl) (no_more !)))) refl (tt, (tt, (record { fits = long }, tt))) $
    split ! $ split ! $ move ! (2 ∷ []) $ fsplit ! $ move ! (0 ∷ 2 ∷ []) $
    use2 𝓛 (later (some (lent 𝓛 κ q b o γ d from end))) (lends 𝓛 κ q b o γ d from end order within (mut_vals a.0)) $
    await ! tt $ pick ! (λ δ. learn ! (λ seen.
    let ys = joined d in
    let many : length (part from (end - from) ys) ≡ end - from = length-take-le (end - from) (drop_list from ys) (omega (arith, length-drop from ys, seen.0)) in
    returns ! (look_at ! 0 refl) $ free_all ! refl $ keep ! (0 ∷ 2 ∷ []) $ split3 ! $
    suffices ! _ (ends_at 𝓛 f.ended stayed c y (slice_val (b, from + start o) (end - from)) (record { ref_ptr = (b, from + start o); ghost_name = δ; now = part from (end - from) ys }) (tt, (tt, (tt, tt))) (tt, (tt, (tt, tt)))) $
    nothing ! $ nothing ! $ fjoin ! $ nothing ! $ fjoin ! $ nothing ! $ fjoin ! $ join ! $ move ! (1 ∷ 3 ∷ []) $ join ! $ join ! $ frame ! $ says ! (refl, many, seen.0, seen.1) $ done !))))))
