use Rattle.gen1_layout.proofs.Words.{ap, goes, member_in, put_damage, refl, seeing, ◌∙◌}
use Rattle.std.proofs.Common.{min, ◌≡◌}
use Rattle.gen1_machine.specs.Progress.{member}
use Rattle.gen1_machine.specs.Landing.{land_on_hp}
use Rattle.gen1_hits.proofs.landing.land_on_hp.Goals as goal

pub returns-clause-shown : goal.returns-clause-shown
unfolding land_on_hp
returns-clause-shown t c g p h =
    let taken : c.min-taken.result ≡ min c.args.damage (member_in c.args.target p.field).hp =
    c.min-taken.ensures ∙ ap (min c.args.damage) (c.hp.ensures.stands _ _ h.within) in
    let a = put_damage h _ (rw taken at (c.put_last_damage.ensures.stands _ _ h.within)) in
    seeing (member c.args.target) _ refl (goes _ _ a (c.lose_hp.ensures.shown g _ a))
