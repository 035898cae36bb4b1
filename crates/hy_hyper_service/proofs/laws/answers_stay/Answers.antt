use Rattle.hy_hyper_service.proofs.StayLaws.{between, within}
use Rattle.hy_hyper_service.proofs.laws.answers_stay.Goals as goal

pub returns : goal.returns
returns c = record {
  between = λ lists kept left follows well stop. between lists kept follows well c.stops_leave_a_beginning.ensures left stop;
  within = λ lists old new before after answer left follows well hands stop.
      within lists old follows well c.stops_leave_a_beginning.ensures new before after answer left hands stop;
}
