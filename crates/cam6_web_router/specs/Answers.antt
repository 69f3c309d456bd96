-- Which answer a request gets.
use Rattle.std.specs.Prelude.{◌≡◌, ◌≢◌, ◌⊎◌, ℕ, Bool, true, false, List, Option, Some, codes, map, option_map}
use Rattle.std.specs.Char.{to_ascii_lowercase}
use Rattle.http_header.specs.HeaderMap.{get}
use Rattle.http.specs.declared.request.Request.{Request}
use Rattle.http.specs.Request.{head_of}
use Rattle.http_uri.specs.Uri.{uri_path}
use Rattle.websocket.specs.Handshake.{IsValidKey, accept_key_of}
use Rattle.cam6_web_page.specs.Files.{IsNowhere, path_to}
use Rattle.cam6_web_router.specs.declared.answers.Answer.{Answer}
use Rattle.cam6_web_router.specs.declared.answers.Answer.TheVariants as answer
use Rattle.cam6_web_router.specs.declared.routers.Router.{Router}
use Rattle.cam6_web_router.specs.declared.ways.Way.{Way}
use Rattle.cam6_web_router.specs.Names.{Named, IsName, IsOrigin}
use Rattle.cam6_web_router.specs.Ways.{LeadsTo, IsNoWay}

-- what the first field of this name says, if there is one
abbrev pub field_value : Request (List ℕ) → List ℕ → Option (List ℕ)
field_value request name = option_map (λ value. value.bytes) (get (head_of request).headers name)

abbrev pub path_of : Request (List ℕ) → List ℕ
path_of request = uri_path (head_of request).uri

-- where the number of hosts is told
abbrev pub path_to_count : List ℕ
path_to_count = codes "/hosts"

-- the server is asked by this name, and it is one of its names
pub record IsAsked (names : Named) (request : Request (List ℕ)) (host : List ℕ) : Type 0 where
  pub says : field_value request (codes "host") ≡ Some host
  pub name : IsName names host

-- the server is asked by one of its names
abbrev pub IsForUs : Router → Request (List ℕ) → Type 0
IsForUs router request = (host : List ℕ) × IsAsked router.names request host

-- the request only asks to be shown something
abbrev pub IsShow : Request (List ℕ) → Type 0
IsShow request =
    ((head_of request).method ≡ codes "GET") ⊎ ((head_of request).method ≡ codes "HEAD")

-- a socket is asked for that leads this way, by this name of the server
pub record AsksFor (router : Router) (request : Request (List ℕ)) (way : Way) (host : List ℕ)
    : Type 0 where
  pub asked : IsAsked router.names request host
  pub shows : IsShow request
  pub leads : LeadsTo router.hosts (path_of request) way

-- a page that the server shows by this name asks
abbrev pub IsOwnPage : Named → Request (List ℕ) → List ℕ → Type 0
IsOwnPage names request host =
    (origin : List ℕ) × (field_value request (codes "origin") ≡ Some origin)
    × IsOrigin names host origin

-- the request is that of a page of the server for a socket that leads this way
abbrev pub MayAsk : Router → Request (List ℕ) → Way → Type 0
MayAsk router request way =
    (host : List ℕ) × AsksFor router request way host × IsOwnPage router.names request host

-- the connection is to go on as a socket, in version 13 of the protocol
abbrev pub AsksForWebSocket : Request (List ℕ) → Type 0
AsksForWebSocket request =
    (upgrade : List ℕ) × (field_value request (codes "upgrade") ≡ Some upgrade)
    × (map to_ascii_lowercase upgrade ≡ codes "websocket")
    × (field_value request (codes "sec-websocket-version") ≡ Some (codes "13"))

-- the request is a handshake with this key
pub record IsHandshake (request : Request (List ℕ)) (key : List ℕ) : Type 0 where
  pub method : (head_of request).method ≡ codes "GET"
  pub asks : AsksForWebSocket request
  pub says : field_value request (codes "sec-websocket-key") ≡ Some key
  pub valid : IsValidKey key

abbrev pub IsNoHandshake : Request (List ℕ) → Type 0
IsNoHandshake request = (key : List ℕ) → ¬ (IsHandshake request key)

-- the request is a handshake which this key accepts
abbrev pub Accepts : Request (List ℕ) → List ℕ → Type 0
Accepts request accept =
    (key : List ℕ) × IsHandshake request key × (accept ≡ accept_key_of key)

-- each answer, and to which request it is given; `has_room` says whether a socket may be opened
abbrev pub IsAnswerTo : Router → Bool → Request (List ℕ) → Answer → Type 0
IsAnswerTo router has_room request answer.Misdirected = ¬ (IsForUs router request)
IsAnswerTo router has_room request answer.WrongMethod =
    IsForUs router request × (¬ (IsShow request))
IsAnswerTo router has_room request (answer.Shows file) =
    IsForUs router request × IsShow request × (path_of request ≡ path_to file)
IsAnswerTo router has_room request answer.Counts =
    IsForUs router request × IsShow request × (path_of request ≡ path_to_count)
IsAnswerTo router has_room request answer.NotFound =
    IsForUs router request × IsShow request × IsNowhere (path_of request)
    × (path_of request ≢ path_to_count) × IsNoWay router.hosts (path_of request)
IsAnswerTo router has_room request answer.Foreign =
    (way : Way) × (host : List ℕ) × AsksFor router request way host
    × (¬ (IsOwnPage router.names request host))
IsAnswerTo router has_room request answer.Malformed =
    (way : Way) × MayAsk router request way × IsNoHandshake request
IsAnswerTo router has_room request answer.Full =
    (way : Way) × MayAsk router request way × ((accept : List ℕ) × Accepts request accept)
    × (has_room ≡ false)
IsAnswerTo router has_room request (answer.Opens accept way) =
    MayAsk router request way × Accepts request accept × (has_room ≡ true)
