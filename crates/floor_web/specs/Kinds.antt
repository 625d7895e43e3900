-- The files of a page: which are served, and as what (RFC 9110, section 8.3).
use Rattle.std.specs.Prelude.{ℕ, List, codes, bytes_eq, Option, Some, None, if◌then◌else◌}
use Rattle.floor_web.specs.declared.pages.Kind.{Kind}
use Rattle.floor_web.specs.declared.pages.Kind.TheVariants.{Html, Css, Script, Svg, Png, Icon, Json, Text}

-- the kind that an end of a name stands for
abbrev pub kind_of : List ℕ → Option Kind
kind_of end =
    if bytes_eq end (codes "html") then Some Html
    else if bytes_eq end (codes "css") then Some Css
    else if bytes_eq end (codes "js") then Some Script
    else if bytes_eq end (codes "svg") then Some Svg
    else if bytes_eq end (codes "png") then Some Png
    else if bytes_eq end (codes "ico") then Some Icon
    else if bytes_eq end (codes "json") then Some Json
    else None

-- its media type
abbrev pub media_type_of : Kind → List ℕ
media_type_of Html = codes "text/html; charset=utf-8"
media_type_of Css = codes "text/css; charset=utf-8"
media_type_of Script = codes "text/javascript; charset=utf-8"
media_type_of Svg = codes "image/svg+xml"
media_type_of Png = codes "image/png"
media_type_of Icon = codes "image/x-icon"
media_type_of Json = codes "application/json"
media_type_of Text = codes "text/plain; charset=utf-8"
