use Rattle.std.proofs.Common.{ap, arith, inl, inr, sym, ◌∙◌, ◌≡◌, ◌⊎◌}
use Rattle.std.specs.Prelude.{max}
use Rattle.gen1_machine.specs.State.{active_in}
use Rattle.gen1_machine.specs.Valid.{IsStarted, IsUnstarted}
use Rattle.gen1_layout.specs.Shows.{setting_of}
use Rattle.gen1_layout.proofs.Storing.{within_of}
use Rattle.gen1_offers.proofs.OfferedSet.{packs_of}
use Rattle.gen1_offers.proofs.Benches.{nobody-out, out_is}
use Rattle.gen1_offers.proofs.bench.first_out.Goals as goal

pub returns-then-turn-eq0-clause-stands : goal.returns-then-turn-eq0-clause-stands
returns-then-turn-eq0-clause-stands c s h = by h.valid.field
  where
    zero-turn : s.field.turn ≡ 0
    zero-turn = sym (c.turn.ensures.packs (setting_of s) s.field (packs_of h)) ∙ c.if-turn-eq0.true

    by : IsUnstarted s.terms s.field ⊎ IsStarted s.terms s.field → 1 ≡ max 1 (active_in c.args.side s.field).place
    by (inl u) = ap (max 1) (sym (nobody-out c.args.side s.terms s.field u))
    by (inr v) = absurd (let t = v.turn in omega (arith, t, zero-turn))

pub returns-else-turn-eq0-clause-stands : goal.returns-else-turn-eq0-clause-stands
returns-else-turn-eq0-clause-stands c s h = by h.valid.field
  where
    by : IsUnstarted s.terms s.field ⊎ IsStarted s.terms s.field → c.place.result ≡ max 1 (active_in c.args.side s.field).place
    by (inl u) = absurd (c.if-turn-eq0.false (c.turn.ensures.packs (setting_of s) s.field (packs_of h) ∙ u.turn))
    by (inr v) =
        let w = within_of c.args.battle.now s h v.field in
        c.place.ensures.stands (setting_of s) s.field w ∙ sym (out_is (setting_of s) s.field c.args.side w)
