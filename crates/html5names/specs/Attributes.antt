-- The names of attributes. A name is its bytes.
use Rattle.std.specs.Prelude.{ℕ, Bool, List, [], ◌∷◌, codes, Option}
use Rattle.std.specs.List.{list_any}
use Rattle.std.specs.Str.{bytes_eq}
use Rattle.html5names.specs.Slips.{meant_among}

-- "List of attributes", "List of event handler content attributes", the attributes that the standard calls obsolete, and those of
-- other specifications that pages often have, in the order of their bytes
unfoldable pub attributes : List (List ℕ)
attributes =
    codes "abbr" ∷ codes "about" ∷ codes "accept" ∷ codes "accept-charset" ∷ codes "accesskey" ∷ codes "action" ∷ codes "align" ∷ codes "alink" ∷
    codes "allow" ∷ codes "allowfullscreen" ∷ codes "allowtransparency" ∷ codes "alpha" ∷ codes "alt" ∷ codes "archive" ∷ codes "as" ∷ codes "async" ∷
    codes "attributionsrc" ∷ codes "autocapitalize" ∷ codes "autocomplete" ∷ codes "autocorrect" ∷ codes "autofocus" ∷ codes "autoplay" ∷
    codes "axis" ∷ codes "background" ∷ codes "behavior" ∷ codes "bgcolor" ∷ codes "blocking" ∷ codes "border" ∷ codes "bordercolor" ∷
    codes "bottommargin" ∷ codes "browsingtopics" ∷ codes "capture" ∷ codes "cellpadding" ∷ codes "cellspacing" ∷ codes "char" ∷ codes "charoff" ∷
    codes "charset" ∷ codes "checked" ∷ codes "cite" ∷ codes "class" ∷ codes "classid" ∷ codes "clear" ∷ codes "closedby" ∷ codes "code" ∷
    codes "codebase" ∷ codes "codetype" ∷ codes "color" ∷ codes "colorspace" ∷ codes "cols" ∷ codes "colspan" ∷ codes "command" ∷ codes "commandfor" ∷
    codes "compact" ∷ codes "content" ∷ codes "contenteditable" ∷ codes "contextmenu" ∷ codes "controls" ∷ codes "controlslist" ∷ codes "coords" ∷
    codes "credentialless" ∷ codes "crossorigin" ∷ codes "csp" ∷ codes "data" ∷ codes "datafld" ∷ codes "dataformatas" ∷ codes "datapagesize" ∷
    codes "datasrc" ∷ codes "datatype" ∷ codes "datetime" ∷ codes "declare" ∷ codes "decoding" ∷ codes "default" ∷ codes "defer" ∷ codes "dir" ∷
    codes "direction" ∷ codes "dirname" ∷ codes "disabled" ∷ codes "disablepictureinpicture" ∷ codes "disableremoteplayback" ∷ codes "download" ∷
    codes "draggable" ∷ codes "dropzone" ∷ codes "elementtiming" ∷ codes "enctype" ∷ codes "enterkeyhint" ∷ codes "event" ∷ codes "exportparts" ∷
    codes "face" ∷ codes "fetchpriority" ∷ codes "for" ∷ codes "form" ∷ codes "formaction" ∷ codes "formenctype" ∷ codes "formmethod" ∷
    codes "formnovalidate" ∷ codes "formtarget" ∷ codes "frame" ∷ codes "frameborder" ∷ codes "framespacing" ∷ codes "headers" ∷
    codes "headingoffset" ∷ codes "headingreset" ∷ codes "height" ∷ codes "hidden" ∷ codes "high" ∷ codes "href" ∷ codes "hreflang" ∷ codes "hspace" ∷
    codes "http-equiv" ∷ codes "icon" ∷ codes "id" ∷ codes "imagesizes" ∷ codes "imagesrcset" ∷ codes "inert" ∷ codes "inlist" ∷ codes "inputmode" ∷
    codes "integrity" ∷ codes "interestfor" ∷ codes "is" ∷ codes "ismap" ∷ codes "itemid" ∷ codes "itemprop" ∷ codes "itemref" ∷ codes "itemscope" ∷
    codes "itemtype" ∷ codes "kind" ∷ codes "label" ∷ codes "lang" ∷ codes "language" ∷ codes "leftmargin" ∷ codes "link" ∷ codes "list" ∷
    codes "loading" ∷ codes "longdesc" ∷ codes "loop" ∷ codes "low" ∷ codes "lowsrc" ∷ codes "manifest" ∷ codes "marginheight" ∷ codes "marginwidth" ∷
    codes "max" ∷ codes "maxlength" ∷ codes "media" ∷ codes "method" ∷ codes "methods" ∷ codes "min" ∷ codes "minlength" ∷ codes "multiple" ∷
    codes "muted" ∷ codes "name" ∷ codes "nohref" ∷ codes "nomodule" ∷ codes "nonce" ∷ codes "noresize" ∷ codes "noshade" ∷ codes "novalidate" ∷
    codes "nowrap" ∷ codes "object" ∷ codes "onabort" ∷ codes "onafterprint" ∷ codes "onanimationcancel" ∷ codes "onanimationend" ∷
    codes "onanimationiteration" ∷ codes "onanimationstart" ∷ codes "onauxclick" ∷ codes "onbeforeinput" ∷ codes "onbeforematch" ∷
    codes "onbeforeprint" ∷ codes "onbeforetoggle" ∷ codes "onbeforeunload" ∷ codes "onblur" ∷ codes "oncancel" ∷ codes "oncanplay" ∷
    codes "oncanplaythrough" ∷ codes "onchange" ∷ codes "onclick" ∷ codes "onclose" ∷ codes "oncommand" ∷ codes "oncontextlost" ∷
    codes "oncontextmenu" ∷ codes "oncontextrestored" ∷ codes "oncopy" ∷ codes "oncuechange" ∷ codes "oncut" ∷ codes "ondblclick" ∷ codes "ondrag" ∷
    codes "ondragend" ∷ codes "ondragenter" ∷ codes "ondragleave" ∷ codes "ondragover" ∷ codes "ondragstart" ∷ codes "ondrop" ∷
    codes "ondurationchange" ∷ codes "onemptied" ∷ codes "onended" ∷ codes "onerror" ∷ codes "onfocus" ∷ codes "onformdata" ∷
    codes "onfullscreenchange" ∷ codes "onfullscreenerror" ∷ codes "ongotpointercapture" ∷ codes "onhashchange" ∷ codes "oninput" ∷
    codes "oninvalid" ∷ codes "onkeydown" ∷ codes "onkeypress" ∷ codes "onkeyup" ∷ codes "onlanguagechange" ∷ codes "onload" ∷ codes "onloadeddata" ∷
    codes "onloadedmetadata" ∷ codes "onloadstart" ∷ codes "onlostpointercapture" ∷ codes "onmessage" ∷ codes "onmessageerror" ∷ codes "onmousedown" ∷
    codes "onmouseenter" ∷ codes "onmouseleave" ∷ codes "onmousemove" ∷ codes "onmouseout" ∷ codes "onmouseover" ∷ codes "onmouseup" ∷
    codes "onoffline" ∷ codes "ononline" ∷ codes "onpagehide" ∷ codes "onpagereveal" ∷ codes "onpageshow" ∷ codes "onpageswap" ∷ codes "onpaste" ∷
    codes "onpause" ∷ codes "onplay" ∷ codes "onplaying" ∷ codes "onpointercancel" ∷ codes "onpointerdown" ∷ codes "onpointerenter" ∷
    codes "onpointerleave" ∷ codes "onpointermove" ∷ codes "onpointerout" ∷ codes "onpointerover" ∷ codes "onpointerrawupdate" ∷ codes "onpointerup" ∷
    codes "onpopstate" ∷ codes "onprogress" ∷ codes "onratechange" ∷ codes "onrejectionhandled" ∷ codes "onreset" ∷ codes "onresize" ∷
    codes "onscroll" ∷ codes "onscrollend" ∷ codes "onsecuritypolicyviolation" ∷ codes "onseeked" ∷ codes "onseeking" ∷ codes "onselect" ∷
    codes "onselectionchange" ∷ codes "onselectstart" ∷ codes "onshow" ∷ codes "onslotchange" ∷ codes "onstalled" ∷ codes "onstorage" ∷
    codes "onsubmit" ∷ codes "onsuspend" ∷ codes "ontimeupdate" ∷ codes "ontoggle" ∷ codes "ontouchcancel" ∷ codes "ontouchend" ∷
    codes "ontouchmove" ∷ codes "ontouchstart" ∷ codes "ontransitioncancel" ∷ codes "ontransitionend" ∷ codes "ontransitionrun" ∷
    codes "ontransitionstart" ∷ codes "onunhandledrejection" ∷ codes "onunload" ∷ codes "onvolumechange" ∷ codes "onwaiting" ∷
    codes "onwebkitanimationend" ∷ codes "onwebkitanimationiteration" ∷ codes "onwebkitanimationstart" ∷ codes "onwebkittransitionend" ∷
    codes "onwheel" ∷ codes "open" ∷ codes "optimum" ∷ codes "part" ∷ codes "pattern" ∷ codes "ping" ∷ codes "placeholder" ∷ codes "playsinline" ∷
    codes "popover" ∷ codes "popovertarget" ∷ codes "popovertargetaction" ∷ codes "poster" ∷ codes "prefix" ∷ codes "preload" ∷ codes "profile" ∷
    codes "property" ∷ codes "radiogroup" ∷ codes "readonly" ∷ codes "referrerpolicy" ∷ codes "rel" ∷ codes "required" ∷ codes "resource" ∷
    codes "rev" ∷ codes "reversed" ∷ codes "rightmargin" ∷ codes "role" ∷ codes "rows" ∷ codes "rowspan" ∷ codes "rules" ∷ codes "sandbox" ∷
    codes "scheme" ∷ codes "scope" ∷ codes "scrollamount" ∷ codes "scrolldelay" ∷ codes "scrolling" ∷ codes "selected" ∷ codes "shadowrootclonable" ∷
    codes "shadowrootcustomelementregistry" ∷ codes "shadowrootdelegatesfocus" ∷ codes "shadowrootmode" ∷ codes "shadowrootserializable" ∷
    codes "shadowrootslotassignment" ∷ codes "shape" ∷ codes "size" ∷ codes "sizes" ∷ codes "slot" ∷ codes "span" ∷ codes "spellcheck" ∷ codes "src" ∷
    codes "srcdoc" ∷ codes "srclang" ∷ codes "srcset" ∷ codes "standby" ∷ codes "start" ∷ codes "step" ∷ codes "style" ∷ codes "summary" ∷
    codes "tabindex" ∷ codes "target" ∷ codes "text" ∷ codes "title" ∷ codes "topmargin" ∷ codes "translate" ∷ codes "truespeed" ∷ codes "type" ∷
    codes "typemustmatch" ∷ codes "typeof" ∷ codes "urn" ∷ codes "usemap" ∷ codes "valign" ∷ codes "value" ∷ codes "valuetype" ∷ codes "version" ∷
    codes "virtualkeyboardpolicy" ∷ codes "vlink" ∷ codes "vocab" ∷ codes "vspace" ∷ codes "webkitdirectory" ∷ codes "width" ∷ codes "wrap" ∷
    codes "writingsuggestions" ∷ codes "xml:lang" ∷ codes "xmlns" ∷ []

-- whether an attribute of this name is listed
abbrev pub is_known_attribute : List ℕ → Bool
is_known_attribute name = list_any (bytes_eq name) attributes

-- the attribute that was meant by a name
abbrev pub meant_attribute : List ℕ → Option (List ℕ)
meant_attribute name = meant_among attributes name
