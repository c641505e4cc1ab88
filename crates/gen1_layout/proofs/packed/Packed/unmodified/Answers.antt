use Rattle.gen1_layout.proofs.Words.{[], arith, member_in, member_ok, refl, word_back}
use Rattle.gen1_layout.proofs.packed.Packed.unmodified.Goals as goal

pub returns-in-Attack : goal.returns-in-Attack
returns-in-Attack c =
    record {
      stands = λ g f h. rw (c.in-Attack.is, c.read_u16.ensures, c.member_out.ensures.stands g f h)
          (word_back (member_in c.args.side f).attack [] (let m = (member_ok c.args.side h).numbers in omega (arith, m.attack.1)));
    }

pub returns-in-Defense : goal.returns-in-Defense
returns-in-Defense c =
    record {
      stands = λ g f h. rw (c.in-Defense.is, c.read_u16-in-Defense.ensures, c.member_out-in-Defense.ensures.stands g f h)
          (word_back (member_in c.args.side f).defense [] (let m = (member_ok c.args.side h).numbers in omega (arith, m.defense.1)));
    }

pub returns-in-Speed : goal.returns-in-Speed
returns-in-Speed c =
    record {
      stands = λ g f h. rw (c.in-Speed.is, c.read_u16-in-Speed.ensures, c.member_out-in-Speed.ensures.stands g f h)
          (word_back (member_in c.args.side f).speed [] (let m = (member_ok c.args.side h).numbers in omega (arith, m.speed.1)));
    }

pub returns-in-Special : goal.returns-in-Special
returns-in-Special c =
    record {
      stands = λ g f h. rw (c.in-Special.is, c.read_u16-in-Special.ensures, c.member_out-in-Special.ensures.stands g f h)
          (word_back (member_in c.args.side f).special [] (let m = (member_ok c.args.side h).numbers in omega (arith, m.special.1)));
    }

pub returns-in-Accuracy : goal.returns-in-Accuracy
returns-in-Accuracy c =
    record { stands = λ g f h. rw c.in-Accuracy.is refl }

pub returns-in-Evasion : goal.returns-in-Evasion
returns-in-Evasion c =
    record { stands = λ g f h. rw c.in-Evasion.is refl }
