use Rattle.std.proofs.Common.{ap, arith, cond, get_or, get_or-set_other, get_or-set_same, inl, inr, length, refl, set, subst, sym, ◌<◌, ◌≡◌, ◌≢◌, ◌+◌, ◌∙◌, ◌⊎◌, ℕ}
use Rattle.std.proofs.lemmas.List.{length-set}
use Rattle.gen1_outcomes.specs.declared.nodes.Asked.TheVariants.{Unknown}
use Rattle.gen1_outcomes.specs.declared.nodes.Chance.{Chance}
use Rattle.gen1_outcomes.specs.declared.nodes.Node.{Node}
use Rattle.gen1_outcomes.specs.Nodes.{IsChance, IsTooLarge}
use Rattle.gen1_outcomes.specs.Bytes.{has, size, alike_in}
use Rattle.gen1_outcomes.proofs.Walking.{covers}
use Rattle.gen1_outcomes.proofs.nodes.Nodes.note.Goals as goal
use Rattle.gen1_outcomes.proofs.nodes.Nodes.note.Goals.{in_default-via-in-Some+else-self-lt-DEPTH, in_default-via-in_default}

pub returns-in_default : goal.returns-in_default
returns-in_default c le =
    let why : (c.args.self.now.len ≡ 24) ⊎ IsTooLarge c.args.self.now =
    elim c.in_default.branch [
      | in_default-via-in-Some+else-self-lt-DEPTH w ↦ inl (omega (arith, w.if-self-lt-DEPTH.false, c.args.self.now.few))
      | in_default-via-in_default w ↦ inr w.in_default.ensures.none
    ]
    in
    inr (inr record { marked = refl; list = refl; asked = refl; length = refl; at = refl; before = refl; options = refl; why = why })

pub returns-in-Some : goal.returns-in-Some
returns-in-Some c le =
    let old = c.args.self.now in
    let node = c.new.result in
    let may = c.args.may_have.now in
    let inside : old.len < length old.list = omega arith in
    let room : old.len < length old.asked = omega arith in
    let before : (k : ℕ) (past : Node) → k < old.len → get_or (set old.list old.len node) k past ≡ get_or old.list k past =
    λ k past lt. let ne : k ≢ old.len = omega (arith, lt) in get_or-set_other old.list old.len k node past ne
    in
    let here : (past : Node) → get_or (set old.list old.len node) old.len past ≡ node = λ past. get_or-set_same old.list old.len node past inside in
    let rest : (x : ℕ) → x < 256 → has node.rest x ≡ cond (alike_in node.damage_classes node.look node.byte x) 0 (has may x) =
    λ x lt. rw (c.new.ensures.classes, c.new.ensures.look, c.new.ensures.byte) (c.new.ensures.rest x lt)
    in
    inl (record {
      long = omega (arith, inside, length-set old.list old.len node);
      length = refl;
      at = refl;
      asks = get_or-set_same old.asked old.len c.args.asked Unknown room;
      asked = λ k lt. let ne : k ≢ old.len = omega (arith, lt) in get_or-set_other old.asked old.len k c.args.asked Unknown ne;
      options = refl;
      before = before;
      byte = λ past. ap (λ (n : Node). n.byte) (here past) ∙ c.new.ensures.byte;
      look = λ past. ap (λ (n : Node). n.look) (here past) ∙ c.new.ensures.look;
      told = λ past. ap (λ (n : Node). n.damage_classes) (here past) ∙ c.new.ensures.classes;
      total = λ past. ap (λ (n : Node). n.total) (here past) ∙ c.new.ensures.total;
      above = λ past. subst (λ (a : Chance). IsChance old a) (sym (ap (λ (n : Node). n.above) (here past) ∙ c.new.ensures.above)) c.in-Some.ensures.some;
      fits = refl;
      since = refl;
      rest = λ past x lt. ap (λ (n : Node). has n.rest x) (here past) ∙ c.new.ensures.rest x lt;
      both = λ past. subst (λ (n : Node). n.count + size n.rest ≡ size may) (sym (here past)) c.new.ensures.count;
      weight = λ class is past. ap (λ (n : Node). n.count) (here past) ∙ c.new.ensures.weight class is;
      covers = covers may old _ node refl before here rest;
    })
