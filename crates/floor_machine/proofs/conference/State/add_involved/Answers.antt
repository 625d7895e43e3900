use Rattle.std.proofs.Common.{ap, refl}
use Rattle.floor_queue.specs.Queue.{numbers_of}
use Rattle.floor_machine.specs.declared.decision.Change.TheVariants.{AddUser}
use Rattle.floor_machine.specs.Conference.{Conference}
use Rattle.floor_machine.specs.steps.Serving.{conference_of}
use Rattle.floor_machine.proofs.Acts.{made-user}
use Rattle.floor_machine.proofs.Framed.{under_way-marked}
use Rattle.floor_machine.proofs.conference.State.add_involved.Goals as goal

pub returns : goal.returns
returns c =
    let s = c.args.self.now in
    let t = c.put_user.new.self in
    let course = c.in_ok-course.course in
    let began = c.in_ok-course.ensures in
    record {
      taken = under_way-marked s t (AddUser c.args.user) course c.requires.rest refl
          (made-user (conference_of s) (conference_of t) course c.args.user began.queue.ascending c.in_ok-put_user.ensures.next began.numbers began.ended) began.before began.ended began.marks
          (ap (λ (x : Conference). numbers_of x.ongoing) c.in_ok-put_user.ensures.next);
    }
