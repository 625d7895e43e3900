use Rattle.floor_machine.proofs.Staying.{live-before, live-joined, live-next, members-next}
use Rattle.floor_machine.proofs.Together.{sent_to_members, told_once_joined}
use Rattle.floor_machine.proofs.laws.members_come_and_stay.Goals as goal

pub returns : goal.returns
returns c = record {
  joins = members-next;
  live = live-joined;
  stays = live-next;
  was = live-before;
  sent = sent_to_members;
  told = told_once_joined;
}
