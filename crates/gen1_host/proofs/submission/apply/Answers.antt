use Rattle.std.proofs.Common.{subst, sym}
use Rattle.gen1_host.specs.declared.submission.Row.{Row}
use Rattle.gen1_host.specs.Hosts.{row_at, Takes}
use Rattle.gen1_host.proofs.submission.apply.Goals as goal

pub returns-in-Submit-clause-takes : goal.returns-in-Submit-clause-takes
returns-in-Submit-clause-takes c t k = subst (λ (row : Row). Takes (row_at row) t c.submit.new.host c.submit.result) (sym c.in-Submit.is) (c.submit.ensures.takes t k)

pub returns-in-Cancel-clause-takes : goal.returns-in-Cancel-clause-takes
returns-in-Cancel-clause-takes c t k = subst (λ (row : Row). Takes (row_at row) t c.cancel.new.host c.cancel.result) (sym c.in-Cancel.is) (c.cancel.ensures.takes t k)

pub returns-in-Expire-clause-takes : goal.returns-in-Expire-clause-takes
returns-in-Expire-clause-takes c t k = subst (λ (row : Row). Takes (row_at row) t c.expire.new.host c.expire.result) (sym c.in-Expire.is) (c.expire.ensures.takes t k)

pub returns-in-OfferDraw-clause-takes : goal.returns-in-OfferDraw-clause-takes
returns-in-OfferDraw-clause-takes c t k = subst (λ (row : Row). Takes (row_at row) t c.offer_draw.new.host c.offer_draw.result) (sym c.in-OfferDraw.is) (c.offer_draw.ensures.takes t k)

pub returns-in-Forfeit-clause-takes : goal.returns-in-Forfeit-clause-takes
returns-in-Forfeit-clause-takes c t k = subst (λ (row : Row). Takes (row_at row) t c.forfeit.new.host c.forfeit.result) (sym c.in-Forfeit.is) (c.forfeit.ensures.takes t k)
