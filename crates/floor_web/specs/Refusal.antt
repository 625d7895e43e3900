-- Why a request isn't served, as HTTP says it (RFC 9110, section 15; RFC 6585, sections 4 and 5).
use Rattle.std.specs.Prelude.{ℕ, List, [], codes}
use Rattle.floor_web.specs.declared.refusal.Refusal.{Refusal}
use Rattle.floor_web.specs.declared.refusal.Refusal.TheVariants.{BadRequest, Forbidden, NotFound, MethodNotAllowed, TooSlow, UpgradeRequired, TooMany, TooLarge, BadGateway, Unavailable}

-- the status of a refusal, with its phrase
abbrev pub status : Refusal → List ℕ
status BadRequest = codes "400 Bad Request"
status Forbidden = codes "403 Forbidden"
status NotFound = codes "404 Not Found"
status MethodNotAllowed = codes "405 Method Not Allowed"
status TooSlow = codes "408 Request Timeout"
status UpgradeRequired = codes "426 Upgrade Required"
status TooMany = codes "429 Too Many Requests"
status TooLarge = codes "431 Request Header Fields Too Large"
status BadGateway = codes "502 Bad Gateway"
status Unavailable = codes "503 Service Unavailable"

-- the fields that its status asks for
abbrev pub fields : Refusal → List ℕ
fields BadRequest = []
fields Forbidden = []
fields NotFound = []
fields MethodNotAllowed = codes "Allow: GET, HEAD\r\n"
fields TooSlow = []
fields UpgradeRequired = codes "Upgrade: websocket\r\nSec-WebSocket-Version: 13\r\n"
fields TooMany = codes "Retry-After: 10\r\n"
fields TooLarge = []
fields BadGateway = []
fields Unavailable = codes "Retry-After: 10\r\n"
