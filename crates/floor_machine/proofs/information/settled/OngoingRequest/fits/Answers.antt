use Rattle.floor_machine.specs.Shown.{entry_of}
use Rattle.floor_machine.proofs.Fitting.{info_fits, ongoing_addable}
use Rattle.floor_machine.proofs.information.settled.OngoingRequest.fits.Goals as goal

pub returns : goal.returns
returns c =
    let config = c.args.self.now.settled.config.now in
    let requests = c.args.self.now.settled.requests.now in
    let r = c.args.self.now.request.now in
    info_fits config requests.ongoing (entry_of r) c.conference-conference.ensures.kept c.has_numbers.ensures
    (ongoing_addable requests config.floors r.number r c.ongoing-ongoing.ensures.kept c.args.self.now.settled.floors c.args.self.now.found)
