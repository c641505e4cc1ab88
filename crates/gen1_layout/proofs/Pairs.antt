-- Pairs of borrows: the final value of what they borrow from. Another borrow may come before the pair, or after each
-- of its two.
use mathlib.Core.List.{List, [], ◌∷◌}
use mathlib.Core.Path.{ap, refl, sym, ◌∙◌}
use Prim.Native.Nat.{ℕ}
use lib.ListN.{length}
use seplogic.Ra.Ura.{Ura}
use mir.Syntax.{named}
use mir.Val.{Val}
use base.Fml.{GName, Lft, Share, fbor, flft, fobs, fres, fsep}
use base.Logic.{SProp, emp, ent, ex, sep, wand}
use base.Stored.{coded_list}
use types.Follow.{followed₂, takes_part}
use types.Kit.{ !, assume, await, by, done, drop, each, feq_i, feq_l, fjoin, fsplit, fsplit3, group, join, later, move, now, pick, qed, raw, rewrite, show, some, split3, updating, use1, use2, ‵, ◌$◌, ◌∵◌, ◌⊛◌}
use types.Logic.{Logic, sem}
use types.Mut.{open_ref}
use types.SemTy.{Arr, Body, cells}
use denote.Array.{Array}
use denote.Builtin.{u8}
use denote.Follow.{both_by, followed, follows, follows_both}
use denote.FollowSlice.{heres_id, slice_of}
use denote.Memory.{mem}
use denote.RattleType.{RattleType}
use denote.Ref.{MutBor}
use denote.Shadow.{pure_l}
use denote.Slice.{MutSlice, mut_slice_at, slice_val}
use denote.Steps.{nothing}
use Rattle.std.specs.List.{refill}
use Rattle.gen1_layout.proofs.Views.{refill-same}

module _ {M : Type 1} {𝓤 : Ura M} (𝓛 : Logic 𝓤) (R T U V : RattleType) (F : T.Denot → R.Denot) (G : U.Denot → V.Denot → T.Denot) (γ γ' γ₁ γ₂ : GName) where
  open 𝓛 use {A}

  -- A part is borrowed, and then a pair from it.
  pub both_then : ent 𝓤 (sep 𝓤 (sem 𝓛 (follows R T γ γ' F)) (sem 𝓛 (follows_both T U V γ' γ₁ γ₂ G))) (sem 𝓛 (follows_both R U V γ γ₁ γ₂ (λ x y. F (G x y))))
  unfolding both_by
  both_then =
      qed 𝓛 (‵ (follows R T γ γ' F) ∷ ‵ (follows_both T U V γ' γ₁ γ₂ G) ∷ []) ∵
      each ! (λ (w : U.Denot × V.Denot). wand 𝓤 (sep 𝓤 (A.res γ₁ (U.coded.code w.0)) (A.res γ₂ (V.coded.code w.1))) (A.res γ (R.coded.code (F (G w.0 w.1))))) (λ w.
      assume ! (‵ (fsep (fres γ₁ (U.coded.code w.0)) (fres γ₂ (V.coded.code w.1)))) $ move ! (0 ∷ 2 ∷ []) $
      use2 𝓛 (‵ (fres γ' (T.coded.code (G w.0 w.1)))) (followed₂ 𝓛 (mem T) (mem U) (mem V) G γ' γ₁ γ₂ w.0 w.1) $ move ! (1 ∷ 0 ∷ []) $
      by ! (followed 𝓛 R T F γ γ' (G w.0 w.1)))

module _ {M : Type 1} {𝓤 : Ura M} (𝓛 : Logic 𝓤) (R T U : RattleType) (G : T.Denot → U.Denot → R.Denot) (f : T.Denot → T.Denot) (g : U.Denot → U.Denot) (γ γ₁ γ₂ δ₁ δ₂ : GName) where
  open 𝓛 use {A}

  -- A pair is borrowed, and then each of the two again.
  pub both_behind : ent 𝓤 (sep 𝓤 (sem 𝓛 (follows_both R T U γ γ₁ γ₂ G)) (sep 𝓤 (sem 𝓛 (follows T T γ₁ δ₁ f)) (sem 𝓛 (follows U U γ₂ δ₂ g)))) (sem 𝓛 (follows_both R T U γ δ₁ δ₂ (λ x y. G (f x) (g y))))
  unfolding both_by
  both_behind =
      qed 𝓛 (‵ (follows_both R T U γ γ₁ γ₂ G) ∷ ‵ (follows T T γ₁ δ₁ f) ∷ ‵ (follows U U γ₂ δ₂ g) ∷ []) ∵
      each ! (λ (w : T.Denot × U.Denot). wand 𝓤 (sep 𝓤 (A.res δ₁ (T.coded.code w.0)) (A.res δ₂ (U.coded.code w.1))) (A.res γ (R.coded.code (G (f w.0) (g w.1))))) (λ w.
      assume ! (‵ (fsep (fres δ₁ (T.coded.code w.0)) (fres δ₂ (U.coded.code w.1)))) $ fsplit ! $ move ! (3 ∷ 0 ∷ []) $
      use2 𝓛 (‵ (fres γ₁ (T.coded.code (f w.0)))) (followed 𝓛 T T f γ₁ δ₁ w.0) $ move ! (3 ∷ 1 ∷ []) $
      use2 𝓛 (‵ (fres γ₂ (U.coded.code (g w.1)))) (followed 𝓛 U U g γ₂ δ₂ w.1) $ move ! (1 ∷ 0 ∷ []) $ join ! $
      by ! (followed₂ 𝓛 (mem R) (mem T) (mem U) G γ γ₁ γ₂ (f w.0) (g w.1)))

module _ {M : Type 1} {𝓤 : Ura M} (𝓛 : Logic 𝓤) (κ : Lft) (q : Share) (r : MutBor (List ℕ)) (vs : List Val) where
  open 𝓛 use {H, A}

  abbrev n : ℕ
  n = length r.now

  abbrev kept : List ℕ → List ℕ
  kept = refill n r.now

  back : (w : List ℕ) → ent 𝓤 (sep 𝓤 (sem 𝓛 ((Arr (mem u8) n).own_at w r.ref_ptr.0 r.ref_ptr.1)) (emp 𝓤)) (sem 𝓛 ((Arr (mem u8) n).own_at (kept w) r.ref_ptr.0 r.ref_ptr.1))
  back w =
      qed 𝓛 (‵ ((Arr (mem u8) n).own_at w r.ref_ptr.0 r.ref_ptr.1) ∷ raw (emp 𝓤) ∷ []) ∵ move ! (1 ∷ []) $ drop ! $ fsplit ! $ feq_l ! (λ e.
      rewrite ! 0 (λ (l : List ℕ). ‵ (cells (mem u8) l r.ref_ptr.0 r.ref_ptr.1)) (sym (refill-same n r.now w e)) refl $
      feq_i ! ℕ (length (kept w)) n (ap length (refill-same n r.now w e) ∙ e) $ fjoin ! $ done !)

  abbrev Anew : GName → SProp 𝓤
  Anew δ = sep 𝓤 (sem 𝓛 ((MutSlice (named 0) κ u8).own_val (record r { ghost_name = δ }) (slice_val r.ref_ptr n ∷ []))) (sep 𝓤 (A.lft κ q) (sem 𝓛 (follows (Array u8 0) (Array u8 0) r.ghost_name δ kept)))

  -- A borrowed slice keeps its length, so only lists of that length matter for what it is borrowed from.
  pub lent_anew : ent 𝓤 (sep 𝓤 (sem 𝓛 ((MutSlice (named 0) κ u8).own_val r vs)) (A.lft κ q)) (H.⇛ (ex 𝓤 Anew))
  lent_anew =
      qed 𝓛 (‵ ((MutSlice (named 0) κ u8).own_val r vs) ∷ ‵ (flft κ q) ∷ []) ∵ updating ! $ fsplit3 ! $ pure_l ! (mut_slice_at u8 r vs) (λ is.
      rewrite ! 0 (λ (l : List ℕ). ‵ (fobs r.ghost_name ((coded_list u8.coded).code l))) (heres_id u8 r.now) refl $
      open_ref ! tt (Arr (mem u8) n) {b = r.ref_ptr.0} {o = r.ref_ptr.1} $ nothing ! $ move ! (2 ∷ 3 ∷ 4 ∷ 1 ∷ 0 ∷ []) $ group ! 5 $
      use1 𝓛 (later (some (λ (δ : GName). ‵ (fobs δ ((coded_list u8.coded).code r.now)) ⊛ ‵ (fbor κ (Body (Arr (mem u8) n) r.ref_ptr.0 r.ref_ptr.1 δ)) ⊛ ‵ (flft κ q) ⊛ ‵ (follows (Array u8 0) (Array u8 0) r.ghost_name δ kept))))
      (takes_part 𝓛 (Arr (mem u8) n) (Arr (mem u8) n) kept κ q r.ref_ptr.0 r.ref_ptr.1 r.ref_ptr.0 r.ref_ptr.1 r.ghost_name (emp 𝓤) back ((coded_list u8.coded).code r.now) ((coded_list u8.coded).code r.now) r.now) $
      await ! tt $ pick ! (λ δ. split3 ! $
      use2 𝓛 (‵ ((MutSlice (named 0) κ u8).own_val (record r { ghost_name = δ }) (slice_val r.ref_ptr n ∷ []))) (slice_of 𝓛 u8 (named 0) κ r.ref_ptr.0 r.ref_ptr.1 δ r.now is.1) $
      now ! $ show ! Anew δ $ done !))
