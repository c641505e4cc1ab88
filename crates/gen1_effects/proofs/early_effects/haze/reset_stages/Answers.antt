use Rattle.gen1_layout.proofs.Words.{arith, lit≤, member_ok, refl, sym, ◌∙◌}
use Rattle.gen1_effects.proofs.StageReset.{level-is, level_accuracy, level_attack, level_defense, level_evasion, level_special, level_speed, levelled}
use Rattle.gen1_effects.proofs.early_effects.haze.reset_stages.Goals as goal

pub returns : goal.returns
returns c = record {
  stands = λ g f h.
      let s = c.args.side in
      let own = (member_ok s h).numbers.attack in
      let attack = c.unmodified-attack.ensures.stands g f h ∙ sym (level-is _ (omega (arith, own.0)) own.1) in
      let w = c.put_attack.ensures.stands g f level_attack 0 h refl attack (lit≤ tt) in
      let own_defense = (member_ok s w).numbers.defense in
      let defense = c.unmodified-defense.ensures.stands _ _ w ∙ sym (level-is _ (omega (arith, own_defense.0)) own_defense.1) in
      let x = c.put_defense.ensures.stands _ _ level_defense w refl defense (lit≤ tt) in
      let own_speed = (member_ok s x).numbers.speed in
      let speed = c.unmodified-speed.ensures.stands _ _ x ∙ sym (level-is _ (omega (arith, own_speed.0)) own_speed.1) in
      let y = c.put_speed.ensures.stands _ _ level_speed 0 x refl speed (lit≤ tt) in
      let own_special = (member_ok s y).numbers.special in
      let special = c.unmodified-special.ensures.stands _ _ y ∙ sym (level-is _ (omega (arith, own_special.0)) own_special.1) in
      let z = c.put_special.ensures.stands _ _ level_special y refl special (lit≤ tt) in
      let u = c.put_accuracy.ensures.stands _ _ level_accuracy z refl (lit≤ tt) in
      let v = c.put_evasion.ensures.stands _ _ level_evasion u refl (lit≤ tt) in
      rw (← levelled s f) v;
}
