use Rattle.std.proofs.Common.{Bool, List, ap, arith, length, length-set, set, sym, ◌-◌, ◌<◌, ◌∙◌, ◌≡◌}
use Rattle.gen1_machine.specs.Layout.{number_of_bits}
use Rattle.gen1_machine.specs.Rules.{bit_of}
use Rattle.gen1_machine.specs.State.{member_at, party}
use Rattle.gen1_stats.specs.Members.{is_living}
use Rattle.gen1_offers.specs.OfferedChoices.{passing}
use Rattle.gen1_offers.proofs.Benches.{bits-below, length-passing, shifted}
use Rattle.gen1_offers.proofs.MaskDigits.{digit-added, passing-set}
use Rattle.gen1_offers.proofs.bench.Bench.digits_follow.Goals as goal

pub returns-clause-digits : goal.returns-clause-digits
returns-clause-digits c g f h bs six is =
    let out = c.args.self.now.out in
    let low = c.requires.range.low in
    let high = c.requires.range.high in
    let k = out - 1 in
    let inside : k < 6 = omega (arith, low, high) in
    let lives : Bool = is_living (member_at out (party c.args.self.now.side f)) in
    let now : List Bool = set bs k lives in
    let long : length now ≡ 6 = length-set bs k lives ∙ six in
    let one : c.from.result ≡ bit_of lives = c.from.ensures ∙ ap bit_of (c.lives.ensures.stands g f h) in
    let back = shifted lives c.from.result k one inside in
    let before = is ∙ sym (ap number_of_bits (passing-set 1 k out bs (omega (arith, low)))) in
    let added = digit-added bs k lives (omega (arith, inside, six)) in
    let result = c.without.ensures.digits now long (omega (arith, before, back, added)) in
    let all : List Bool = passing 1 c.place-out.result now in
    let below = bits-below all 6 (length-passing 1 c.place-out.result now ∙ long) in
    omega (arith, result, below)
