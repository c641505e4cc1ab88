-- A `Packed` in memory is its 384 bytes in a row, and the other way around.
use mathlib.Core.List.{List, [], ◌∷◌}
use mathlib.Core.Path.{◌≡◌, ap, refl, sym}
use Prim.Native.Nat.{zero, ℕ, ◌+◌}
use lib.ListN.{length}
use seplogic.Ra.Ura.{Ura}
use mir.Syntax.{Ty, ty_array, ty_int, ty_struct, w8}
use base.Fml.{Fml, feq, fsep, ftrue}
use base.Fraction.{full_share}
use base.Logic.{SProp, emp, ent, ex, ex_i, sep, via}
use prog.Memory.{align, up}
use types.Kit.{ !, done, drop, feq_i, feq_l, fjoin, fsplit, move, pick, qed, raw, rewrite, some, split, use1, use2, by, ‵, ◌$◌, ◌∵◌, ◌⊛◌}
use types.Logic.{Logic, sem}
use types.SemTy.{cells}
use denote.Array.{Array}
use denote.ArrayMemory.{Array-apart, Array-whole}
use denote.Builtin.{u8}
use denote.Index.{row, whole_in, whole_out}
use denote.Memory.{mem, part_at}
use denote.Model.Fields.{OwnsFields, Plain-in, plain_out}
use denote.Model.Fixed.{fixed_owns}
use denote.RattleType.{RattleType}
use denote.Steps.{nothing}
use denote.Struct.Declared.{shape}
use denote.Struct.Members.{Member, raw_tys}
use denote.Struct.Parts.{Struct-left, left_Struct, shape_of}
use denote.Struct.Recorded.{Recorded-part}
use denote.Struct.Struct.{Struct}
use Rattle.gen1_layout.specs.Parts.{joined-parts, Parts, parts_of}
use Rattle.gen1_layout.specs.contracts.packed.Packed as whole
use Rattle.gen1_layout.specs.contracts.packed.Packed.TheInside as inside
use Rattle.gen1_layout.proofs.packed.Packed.TheInside.TheLaws as laws

-- A packed battle, as callers see it and as its field.
abbrev pub Row : RattleType
Row = whole.the_row

abbrev pub Inner : RattleType
Inner = inside.the_row

abbrev array_ty : Ty
array_ty = ty_array (ty_int w8) 384

-- Where the bytes begin, in a struct at the offset o.
abbrev pub start : ℕ → ℕ
start o = o + up (align array_ty) zero

abbrev fields : List Member
fields = record { row = Array u8 384; ty = array_ty } ∷ []

abbrev Tuple : RattleType
Tuple = Struct (shape_of inside.the_type.name fields)

as_tuple : (v : Inner.Denot) (b o : ℕ) → part_at Inner full_share v b o ≡ part_at Tuple full_share (v.0, tt) b o
as_tuple v b o = let D = inside.the_type in Recorded-part (Struct (shape D)) D.D D.to D.to_one full_share v b o

abbrev Viewed : Parts → Inner.Denot → Type 0
Viewed d a = (parts_of a.0 ≡ d) × (length a.0 ≡ 384)

-- To own a battle is to own its field.
abbrev Owned : OwnsFields Row Inner
Owned =
    fixed_owns Inner Parts Row.coded whole.the_inverse whole.the_view whole.the_invariant
    (λ a long. ap (λ (xs : List ℕ). record { 0 = xs }) (joined-parts a.0 long))

module _ {M : Type 1} {𝓤 : Ura M} (𝓛 : Logic 𝓤) (b o : ℕ) where
  open 𝓛 use {H}

  -- The remaining part of the struct while its field is out.
  abbrev pub Left : SProp 𝓤
  Left = H.left full_share (ty_struct [] (raw_tys fields)) (raw_tys fields) b o

  elements_out : (v : Inner.Denot)
      → ent 𝓤 (sem 𝓛 (part_at Inner full_share v b o)) (sep 𝓤 (sem 𝓛 (cells (mem u8) v.0 b (start o))) Left)
  elements_out v =
      qed 𝓛 (‵ (part_at Inner full_share v b o) ∷ []) ∵
      rewrite ! 0 (λ (f : Fml). ‵ f) (as_tuple v b o) refl $
      use1 𝓛 (‵ (fsep (part_at (Array u8 384) full_share v.0 b (start o)) ftrue) ⊛ raw Left)
      (Struct-left 𝓛 full_share inside.the_type.name fields (laws.the_loose.0.single, tt) (v.0, tt) b o) $
      split ! $ fsplit ! $ move ! (1 ∷ []) $ drop ! $
      use1 𝓛 (‵ (fsep (feq ℕ (length v.0) 384) (row u8 full_share v.0 b (start o))))
      (Array-apart 𝓛 u8 full_share tt 384 v.0 b (start o)) $ fsplit ! $ feq_l ! (λ long.
      use1 𝓛 (‵ (cells (mem u8) v.0 b (start o))) (whole_in 𝓛 u8 v.0 b (start o)) $ done !)

  elements_in : (v : Inner.Denot) → length v.0 ≡ 384
      → ent 𝓤 (sep 𝓤 (sem 𝓛 (cells (mem u8) v.0 b (start o))) Left) (sem 𝓛 (part_at Inner full_share v b o))
  elements_in v long =
      qed 𝓛 (‵ (cells (mem u8) v.0 b (start o)) ∷ raw Left ∷ []) ∵
      use1 𝓛 (‵ (row u8 full_share v.0 b (start o))) (whole_out 𝓛 u8 v.0 b (start o)) $
      feq_i ! ℕ (length v.0) 384 long $ fjoin ! $
      use1 𝓛 (‵ (part_at (Array u8 384) full_share v.0 b (start o))) (Array-whole 𝓛 u8 full_share 384 v.0 b (start o)) $
      nothing ! $ move ! (1 ∷ 0 ∷ []) $ fjoin ! $
      use2 𝓛 (‵ (part_at Tuple full_share (v.0, tt) b o)) (left_Struct 𝓛 full_share inside.the_type.name fields (v.0, tt) b o) $
      rewrite ! 0 (λ (f : Fml). ‵ f) (sym (as_tuple v b o)) refl $ done !

  -- The bytes of a packed battle whose value is d.
  pub bytes_out : (d : Parts)
      → ent 𝓤 (sem 𝓛 ((mem Row).own_at d b o))
      (ex 𝓤 (λ (x : (a : Inner.Denot) × Viewed d a). sep 𝓤 (sem 𝓛 (cells (mem u8) x.0.0 b (start o))) Left))
  bytes_out d =
      qed 𝓛 (‵ (part_at Row full_share d b o) ∷ []) ∵
      use1 𝓛 (some (λ (x : (a : Inner.Denot) × Viewed d a). ‵ (part_at Inner full_share x.0 b o)))
      (plain_out Row Inner Owned 𝓛 full_share d b o) $
      pick ! (λ x. use1 𝓛 (‵ (cells (mem u8) x.0.0 b (start o)) ⊛ raw Left) (elements_out x.0) $
      by ! (ex_i 𝓤 (λ (x : (a : Inner.Denot) × Viewed d a). sep 𝓤 (sem 𝓛 (cells (mem u8) x.0.0 b (start o))) Left) x))

  pub bytes_in : (xs : List ℕ) → length xs ≡ 384
      → ent 𝓤 (sep 𝓤 (sem 𝓛 (cells (mem u8) xs b (start o))) Left) (sem 𝓛 ((mem Row).own_at (parts_of xs) b o))
  bytes_in xs long =
      let a : Inner.Denot = record { 0 = xs } in
      via 𝓤 _ (elements_in a long)
      (Plain-in Row Inner Owned 𝓛 full_share (parts_of xs) a (ex_i 𝓤 (λ (_ : Viewed (parts_of xs) a). emp 𝓤) (refl, long)) b o)
