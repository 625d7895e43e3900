use Rattle.floor_rpc.proofs.answer_json.AnswerToJson.write.Goals as goal

pub returns-in-Conferences : goal.returns-in-Conferences
returns-in-Conferences c = rw c.in-Conferences.is c.write_two.ensures

pub returns-in-UserAdded : goal.returns-in-UserAdded
returns-in-UserAdded c = rw c.in-UserAdded.is c.write_two-in-UserAdded.ensures

pub returns-in-FloorChanged : goal.returns-in-FloorChanged
returns-in-FloorChanged c = rw c.in-FloorChanged.is c.write_two-in-FloorChanged.ensures

pub returns-in-Journal : goal.returns-in-Journal
returns-in-Journal c = rw c.in-Journal.is c.write_two-in-Journal.ensures
