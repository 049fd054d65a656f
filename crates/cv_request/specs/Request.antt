-- What a line is as a request of a client: a JSON object with a lane, the name of a command in its member `do`, and the
-- members of that command; or its first fault (defined by this project, after the requests that Clair v4 takes). Other
-- members are ignored.
use Rattle.std.specs.Prelude.{ℕ, ◌^◌, ◌-◌, if◌then◌else◌, List, codes, Option, Some, None, Result, Ok, Err}
use Rattle.std.specs.Option.{ok_or}
use Rattle.serde_json.specs.Data.{Data}
use Rattle.serde_json.specs.Find.{get}
use Rattle.cv_base.specs.Results.{◌>>=◌}
use Rattle.cv_base.specs.Texts.{same}
use Rattle.cv_base.specs.declared.advisory.Advisory.{Advisory}
use Rattle.cv_osv.specs.Json.{object_or, text_or}
use Rattle.cv_osv.specs.Records.{records_of}
use Rattle.cv_request.specs.Fault.{listing, refusing}
use Rattle.cv_request.specs.Line.{json_or}
use Rattle.cv_request.specs.Manifest.{digest_or, manifest_of}
use Rattle.cv_request.specs.Member.{feed_or, lane_or, number_or, texts_or}
use Rattle.cv_request.specs.declared.error.RequestFault.{RequestFault}
use Rattle.cv_request.specs.declared.error.RequestFault.TheVariants.{BadRequest}
use Rattle.cv_request.specs.declared.error.RequestWhat.{RequestWhat}
use Rattle.cv_request.specs.declared.error.RequestWhat.TheVariants.{NotObject, BadDo, BadImage, BadManifest, BadBase, BadRemove, BadAdvisories, BadNumber, BadSize, BadPage}
use Rattle.cv_request.specs.declared.limits.TheConstants.{MAX_PAGE_ROWS}
use Rattle.cv_request.specs.declared.request.Act.{Act}
use Rattle.cv_request.specs.declared.request.Act.TheVariants as act
use Rattle.cv_request.specs.declared.request.Request.{Request}

-- an image to register
unfoldable pub register_of : Data → Result Act RequestWhat
register_of d = do
  value ← ok_or (get (codes "manifest") d) BadManifest
  manifest ← manifest_of value
  Ok (act.Register manifest)

-- the image that a request is about
abbrev pub image_of : Data → Result (List ℕ) RequestWhat
image_of d = digest_or BadImage (get (codes "image") d)

-- the records of a feed
abbrev pub records_or : Option Data → Result (List Advisory) RequestFault
records_or None = Err (BadRequest BadAdvisories)
records_or (Some d) = listing (records_of d)

-- a feed to update
unfoldable pub update_of : Data → Result Act RequestFault
update_of d = do
  feed ← refusing (feed_or (get (codes "feed") d))
  records ← records_or (get (codes "advisories") d)
  Ok (act.Update feed records)

-- a feed to change, if it has the generation `base`: ids of records to remove, and records to put in
unfoldable pub patch_of : Data → Result Act RequestFault
patch_of d = do
  feed ← refusing (feed_or (get (codes "feed") d))
  base ← refusing (number_or 0 (2 ^ 64 - 1) BadBase (get (codes "base") d))
  remove ← refusing (texts_or BadRemove (get (codes "remove") d))
  records ← records_or (get (codes "advisories") d)
  Ok (act.Patch feed base records remove)

-- the notification that a request is about
abbrev pub notification_of : Data → Result ℕ RequestWhat
notification_of d = number_or 0 (2 ^ 64 - 1) BadNumber (get (codes "number") d)

-- a page to show
unfoldable pub page_of : Data → Result Act RequestWhat
page_of d = do
  number ← notification_of d
  size ← number_or 1 MAX_PAGE_ROWS BadSize (get (codes "size") d)
  page ← number_or 1 (2 ^ 64 - 1) BadPage (get (codes "page") d)
  Ok (act.Page number size page)

-- the action of the command of this name
unfoldable pub act_of : List ℕ → Data → Result Act RequestFault
act_of name d =
    if same name (codes "register") then refusing (register_of d)
    else (if same name (codes "drop") then refusing (image_of d >>= λ image. Ok (act.DropImage image))
    else (if same name (codes "update") then update_of d
    else (if same name (codes "patch") then patch_of d
    else (if same name (codes "report") then refusing (image_of d >>= λ image. Ok (act.Report image))
    else (if same name (codes "page") then refusing (page_of d)
    else (if same name (codes "list") then Ok act.List
    else (if same name (codes "ack") then refusing (notification_of d >>= λ number. Ok (act.Ack number))
    else Err (BadRequest BadDo))))))))

-- a request
unfoldable pub request_of : Data → Result Request RequestFault
request_of d = do
  _ ← refusing (object_or NotObject d)
  lane ← refusing (lane_or (get (codes "lane") d))
  name ← refusing (text_or BadDo (get (codes "do") d))
  command ← act_of name d
  Ok (record { lane = lane; act = command })

-- the request that a line is
abbrev pub request_line : List ℕ → Result Request RequestFault
request_line line = json_or line >>= request_of
