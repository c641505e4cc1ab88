use Rattle.std.proofs.Common.{◌≡◌, ◌∙◌}
use Rattle.gen1_layout.proofs.Words.{packed_of, party, refl}
use Rattle.gen1_layout.proofs.WaysBack.{ok_inside}
use Rattle.gen1_tables.specs.Species.{species_row}
use Rattle.gen1_machine.specs.State.{member_at}
use Rattle.gen1_machine.specs.SwitchingIn.{with_sent_out}
use Rattle.gen1_switching.specs.SwitchingIn.{halvings_of, quarterings_of}
use Rattle.gen1_switching.proofs.SwitchingIn.{sent_made, stats_made}
use Rattle.gen1_switching.proofs.switching_in.put_out_with.Goals as goal

pub returns-in-Some : goal.returns-in-Some
unfolding with_sent_out
returns-in-Some c =
    record {
      stands = λ g f h there is.
          let k = packed_of h in
          let number = c.number-at.ensures.value in
          let m = member_at c.args.place (party c.args.side f) in
          let species : c.in-Some.species ≡ m.species = let e = rw number at (c.in-Some.ensures.packs g f k (rw number there.1)) in cc in
          c.put_sent_out.ensures.stands g f (with_sent_out c.args.place m) (halvings_of m.status) (quarterings_of m.status) h
          (sent_made c.args.place m ∙ (rw (number, c.types.ensures, species) refl)) (rw number there.0) (rw number there.1)
          (rw number (is ∙ stats_made c.args.place (species_row m.species).first_type (species_row m.species).second_type m (ok_inside k c.args.side c.args.place there.0 there.1).numbers));
      packs = λ g f k there is.
          let number = c.number-at.ensures.value in
          let m = member_at c.args.place (party c.args.side f) in
          let species : c.in-Some.species ≡ m.species = let e = rw number at (c.in-Some.ensures.packs g f k (rw number there.1)) in cc in
          c.put_sent_out.ensures.begins g f (with_sent_out c.args.place m) (halvings_of m.status) (quarterings_of m.status) k
          (sent_made c.args.place m ∙ (rw (number, c.types.ensures, species) refl)) (rw number there.0)
          (rw number (is ∙ stats_made c.args.place (species_row m.species).first_type (species_row m.species).second_type m (ok_inside k c.args.side c.args.place there.0 there.1).numbers));
    }

pub returns-in_default : goal.returns-in_default
returns-in_default c =
    record {
      stands = λ g f h there is. let none = c.in_default.ensures.packs g f (packed_of h) (rw c.number-at.ensures.value there.1) in cc;
      packs = λ g f k there is. let none = c.in_default.ensures.packs g f k (rw c.number-at.ensures.value there.1) in cc;
    }
