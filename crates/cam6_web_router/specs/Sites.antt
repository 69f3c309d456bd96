-- What is answered, as responses.
use Rattle.std.specs.Prelude.{◌≡◌, ◌++◌, ℕ, List, [], ◌∷◌, Option, Some, None, codes, decimal}
use Rattle.http.specs.declared.request.Request.{Request}
use Rattle.http1.specs.Fields.{Header}
use Rattle.http_server.specs.declared.response.Response.{Response}
use Rattle.http_server.specs.Response.{IsResponse}
use Rattle.cam6_web_page.specs.Files.{bytes_of, kind_of}
use Rattle.cam6_web_page.specs.declared.kinds.Kind.{Kind}
use Rattle.cam6_web_page.specs.declared.kinds.Kind.TheVariants as kind
use Rattle.cam6_web_router.specs.declared.answers.Answer.{Answer}
use Rattle.cam6_web_router.specs.declared.answers.Answer.TheVariants as answer
use Rattle.cam6_web_router.specs.declared.routers.Router.{Router}
use Rattle.cam6_web_router.specs.declared.refusals.TheConstants as refusals
use Rattle.cam6_web_router.specs.declared.sites.Site.{Site}
use Rattle.cam6_web_router.specs.declared.sites.TheConstants.{POLICY}
use Rattle.cam6_web_router.specs.declared.ways.Way.{Way}
use Rattle.cam6_web_router.specs.Answers.{IsAnswerTo}

abbrev pub status_of : Answer → ℕ
status_of answer.Misdirected = 421
status_of answer.WrongMethod = 405
status_of (answer.Shows file) = 200
status_of answer.Counts = 200
status_of answer.NotFound = 404
status_of answer.Foreign = 403
status_of answer.Malformed = 400
status_of answer.Full = 503
status_of (answer.Opens accept way) = 101

-- the content type of a file, and of a text that is no file
abbrev pub type_of : Kind → List ℕ
type_of kind.Html = codes "text/html; charset=utf-8"
type_of kind.Style = codes "text/css; charset=utf-8"
type_of kind.Script = codes "text/javascript; charset=utf-8"

abbrev pub plain : List ℕ
plain = codes "text/plain; charset=utf-8"

-- the fields of a text of this content type: the connection ends after it; the page loads nothing
-- from elsewhere and no other page frames it; and nobody guesses another type or keeps a copy
abbrev pub fields_of_kind : List ℕ → List Header
fields_of_kind type =
    (codes "connection", codes "close") ∷ (codes "content-type", type)
    ∷ (codes "content-security-policy", POLICY.now)
    ∷ (codes "x-content-type-options", codes "nosniff")
    ∷ (codes "cache-control", codes "no-store") ∷ []

abbrev pub fields_told : Answer → List Header
fields_told answer.WrongMethod = fields_of_kind plain ++ (codes "allow", codes "GET, HEAD") ∷ []
fields_told (answer.Shows file) =
    fields_of_kind (type_of (kind_of file)) ++ (codes "content-encoding", codes "gzip") ∷ []
fields_told (answer.Opens accept way) =
    (codes "connection", codes "Upgrade") ∷ (codes "upgrade", codes "websocket")
    ∷ (codes "sec-websocket-accept", accept) ∷ []
fields_told _ = fields_of_kind plain

abbrev pub text_told : Router → Answer → List ℕ
text_told router answer.Misdirected = refusals.MISDIRECTED.now
text_told router answer.WrongMethod = refusals.WRONG_METHOD.now
text_told router (answer.Shows file) = bytes_of file
text_told router answer.Counts = decimal router.hosts
text_told router answer.NotFound = refusals.NOT_FOUND.now
text_told router answer.Foreign = refusals.FOREIGN.now
text_told router answer.Malformed = refusals.MALFORMED.now
text_told router answer.Full = refusals.FULL.now
text_told router (answer.Opens accept way) = []

-- the response is that of the answer
abbrev pub Tells : Router → Answer → Response → Type 0
Tells router a = IsResponse (status_of a) (fields_told a) (text_told router a)

-- where a socket leads, if the answer opens one
abbrev pub way_of : Answer → Option Way
way_of (answer.Opens accept way) = Some way
way_of _ = None

-- the response is that of an answer which the request gets, and the site keeps where a socket leads
abbrev pub Answers : Site → Request (List ℕ) → Response → Site → Type 0
Answers old request response new =
    (a : Answer) × IsAnswerTo old.router.now old.has_room request a
    × Tells old.router.now a response × (new ≡ record old { opened = way_of a })
